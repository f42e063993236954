-- What the motions of a line do.
use Rattle.rl_base.specs.Clusters.{next_pos, prev_pos}
use Rattle.rl_base.specs.Search.{find_place}
use Rattle.rl_base.specs.Words.{next_word, prev_word}
use Rattle.rl_base.specs.declared.layout.Layout.{Layout}
use Rattle.rl_base.specs.declared.motion.Movement.{Movement}
use Rattle.rl_base.specs.declared.motion.Movement.TheVariants.{BackwardChar, BackwardWord, BeginningOfBuffer, BeginningOfLine, EndOfBuffer, EndOfLine, FirstNonBlank, ForwardChar, ForwardWord, LineDown, LineUp, ViCharSearch}
use Rattle.rl_line.specs.Line.{Line}
use Rattle.rl_line.specs.LineMotions.{first_nonblank, home, line_end, place_above, place_below}
use Rattle.std.specs.Prelude.{Bool, None, Option, Some, false, if◌then◌else◌, length, true, ℕ, ◌==◌, ◌≡◌, ◌≤◌}
use Rattle.std.specs.Str.{trim_end}

-- a motion to a place, if there is one: true with the cursor there, else false, and nothing else changes
abbrev pub Moved : Option ℕ → Line → Line → Bool → Type 0
Moved (Some place) old new answer = (answer ≡ true) × (new ≡ record old { cursor = place })
Moved None old new answer = (answer ≡ false) × (new ≡ old)

-- a place other than the cursor's
abbrev pub unless_there : Line → ℕ → Option ℕ
unless_there line place = if line.cursor == place then None else Some place

-- where a movement leads from the cursor, if anywhere
abbrev pub destination : Layout → Line → Movement → Option ℕ
destination layout line BeginningOfLine = unless_there line (home line)
destination layout line EndOfLine = unless_there line (line_end line)
destination layout line FirstNonBlank = unless_there line (first_nonblank line)
destination layout line (BackwardWord n word) = prev_word line.text line.cursor word n
destination layout line (ForwardWord n at word) = next_word line.text line.cursor at word n
destination layout line (ViCharSearch n cs) = find_place line.text line.cursor cs n
destination layout line (BackwardChar n) = prev_pos line.text line.cursor n
destination layout line (ForwardChar n) = next_pos line.text line.cursor n
destination layout line (LineUp n) = place_above layout line.text line.cursor n
destination layout line (LineDown n) = place_below layout line.text line.cursor n
destination layout line BeginningOfBuffer = unless_there line 0
destination layout line EndOfBuffer = unless_there line (length line.text)
destination layout line _ = None

-- nothing but blanks stands from the cursor on
abbrev pub IsEndOfInput : Line → Type 0
IsEndOfInput line = length (trim_end line.text) ≤ line.cursor
