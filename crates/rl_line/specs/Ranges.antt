-- What each movement covers: the one table that copying, killing and indenting share, with the exceptions of the last two beside it.
use Rattle.rl_base.specs.Clusters.{next_pos, prev_pos}
use Rattle.rl_base.specs.Lines.{end_of_line, is_newline, last_line, line_number, start_of_line}
use Rattle.rl_base.specs.Search.{chosen_hit}
use Rattle.rl_base.specs.Words.{next_word, prev_word}
use Rattle.rl_base.specs.declared.motion.At.TheVariants.{Start}
use Rattle.rl_base.specs.declared.motion.CharSearch.{CharSearch}
use Rattle.rl_base.specs.declared.motion.CharSearch.TheVariants.{Backward, BackwardAfter, Forward, ForwardBefore}
use Rattle.rl_base.specs.declared.motion.Movement.{Movement}
use Rattle.rl_base.specs.declared.motion.Movement.TheVariants.{BackwardChar, BackwardWord, BeginningOfBuffer, BeginningOfLine, EndOfBuffer, EndOfLine, FirstNonBlank, ForwardChar, ForwardWord, LineDown, LineUp, ViCharSearch, ViFirstPrint, WholeBuffer, WholeLine, WholeLinesDown, WholeLinesUp}
use Rattle.rl_base.specs.declared.motion.Word.TheVariants.{Big}
use Rattle.rl_line.specs.Line.{Line, between}
use Rattle.rl_line.specs.LineMotions.{first_nonblank, home, line_end}
use Rattle.std.specs.Char.{len_utf8}
use Rattle.std.specs.Option.{option_map, option_or}
use Rattle.std.specs.Prelude.{List, None, Option, Some, count_by, drop, if◌then◌else◌, length, max, min, nat_le, option_and_then, slice_range, unwrap_or, ℕ, ◌+◌, ◌-◌, ◌==◌}
use Rattle.std.specs.declared.ops.Range.{Range}

-- the text of a range
abbrev pub text_in : Line → Range ℕ → List ℕ
text_in line r = slice_range line.text r.start r.end

-- none if there is nothing between the places
abbrev pub unless_empty : ℕ → ℕ → Option (Range ℕ)
unless_empty i j = if i == j then None else Some (between i j)

-- from a place to the cursor, and from the cursor to a place, if there is one
abbrev pub from_place : Line → Option ℕ → Option (Range ℕ)
from_place line place = option_map (λ q. between q line.cursor) place

abbrev pub to_place : Line → Option ℕ → Option (Range ℕ)
to_place line place = option_map (λ q. between line.cursor q) place

-- between a place and the cursor, whichever comes first; none if the cursor is there
abbrev pub either_way : Line → ℕ → Option (Range ℕ)
either_way line place = unless_empty (min place line.cursor) (max place line.cursor)

-- between the cursor and a hit: with the hit's character for Forward and Backward, else without it
abbrev pub to_hit : CharSearch → ℕ → ℕ → Range ℕ
to_hit (Forward c) pos hit = between pos (hit + len_utf8 c)
to_hit (ForwardBefore _) pos hit = between pos hit
to_hit (Backward _) pos hit = between hit pos
to_hit (BackwardAfter c) pos hit = between (hit + len_utf8 c) pos

-- from the first start of a Big word after the text's start, if that is not past the cursor
abbrev pub from_first_print : List ℕ → ℕ → Option (Range ℕ)
from_first_print text pos =
    if pos == 0 then None
    else option_and_then (λ q. if nat_le q pos then Some (between q pos) else None) (next_word text 0 Start Big 1)

-- after the newline of line k; for the last, which has none, the end of the text
abbrev pub after_line : List ℕ → ℕ → ℕ
after_line text k = min (end_of_line text k + 1) (length text)

-- the cursor's line with the n lines above it; none on the first line
abbrev pub lines_up : List ℕ → ℕ → ℕ → Option (Range ℕ)
lines_up text pos n =
    let k = line_number text pos in
    if k == 0 then None else Some (between (start_of_line text (k - n)) (after_line text k))

-- the cursor's line with the n lines below it, and the newline above it; none without a newline from the cursor on
abbrev pub lines_down : List ℕ → ℕ → ℕ → Option (Range ℕ)
lines_down text pos n =
    let k = line_number text pos in
    if count_by is_newline (drop pos text) == 0 then None
    else Some (between (start_of_line text k - 1) (after_line text (min (last_line text) (k + n))))

-- the cursor's line and those above it, n in all, at least one, with their newlines; none if that is nothing
abbrev pub whole_lines_up : List ℕ → ℕ → ℕ → Option (Range ℕ)
whole_lines_up text pos n =
    let k = line_number text pos in unless_empty (start_of_line text (k - (n - 1))) (after_line text k)

-- the cursor's line and those below it, n in all, at least one, with their newlines; none if that is nothing
abbrev pub whole_lines_down : List ℕ → ℕ → ℕ → Option (Range ℕ)
whole_lines_down text pos n =
    let k = line_number text pos in unless_empty (start_of_line text k) (after_line text (min (last_line text) (k + (n - 1))))

-- what a movement covers, and copies
abbrev pub covered : Line → Movement → Option (Range ℕ)
covered line WholeLine = unless_empty (home line) (line_end line)
covered line BeginningOfLine = unless_empty (home line) line.cursor
covered line EndOfLine = unless_empty line.cursor (line_end line)
covered line (BackwardWord n word) = from_place line (prev_word line.text line.cursor word n)
covered line (ForwardWord n at word) = to_place line (next_word line.text line.cursor at word n)
covered line (ViCharSearch n cs) = option_map (to_hit cs line.cursor) (chosen_hit line.text line.cursor cs n)
covered line ViFirstPrint = from_first_print line.text line.cursor
covered line FirstNonBlank = either_way line (first_nonblank line)
covered line (BackwardChar n) = from_place line (prev_pos line.text line.cursor n)
covered line (ForwardChar n) = to_place line (next_pos line.text line.cursor n)
covered line (LineUp n) = lines_up line.text line.cursor n
covered line (LineDown n) = lines_down line.text line.cursor n
covered line (WholeLinesUp n) = whole_lines_up line.text line.cursor n
covered line (WholeLinesDown n) = whole_lines_down line.text line.cursor n
covered line WholeBuffer = unless_empty 0 (length line.text)
covered line BeginningOfBuffer = unless_empty 0 line.cursor
covered line EndOfBuffer = unless_empty line.cursor (length line.text)

-- the newline at the end of a line's text, which only the last line lacks
abbrev pub newline_at : List ℕ → ℕ → Option (Range ℕ)
newline_at text stop = if stop == length text then None else Some (between stop (stop + 1))

-- what a movement kills: what it covers, except for these
abbrev pub killed : Line → Movement → Option (Range ℕ)
-- of an empty line, and at the end of a line, the newline goes
killed line WholeLine = option_or (covered line WholeLine) (newline_at line.text (line_end line))
killed line EndOfLine = option_or (covered line EndOfLine) (newline_at line.text (line_end line))
-- at the start of a line, the cluster before it, which is a newline or ends with one
killed line BeginningOfLine = option_or (covered line BeginningOfLine) (covered line (BackwardChar 1))
killed line ViFirstPrint = None
killed line mvt = covered line mvt

-- the empty range at the cursor
abbrev pub here : Line → Range ℕ
here line = between line.cursor line.cursor

-- the range whose lines an indent takes: what a movement covers, except for movements within a line
abbrev pub indented : Line → Movement → Range ℕ
indented line WholeLine = here line
indented line BeginningOfLine = here line
indented line EndOfLine = here line
indented line (ViCharSearch _ _) = here line
indented line ViFirstPrint = here line
indented line FirstNonBlank = here line
indented line (BackwardChar _) = here line
indented line (ForwardChar _) = here line
indented line mvt = unwrap_or (covered line mvt) (here line)
