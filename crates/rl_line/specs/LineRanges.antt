-- Ranges of a text, and where the text of a line stands.
use Rattle.rl_base.specs.Lines.{lines, start_of_line}
use Rattle.rl_line.specs.Line.{between}
use Rattle.std.specs.Option.{option_map}
use Rattle.std.specs.Prelude.{List, Option, length, slice_get, ℕ, ◌+◌, ◌≤◌}
use Rattle.std.specs.Str.{IsCharBoundary}
use Rattle.std.specs.declared.ops.Range.{Range}

-- a range of a text begins and ends between two characters, in this order
abbrev pub IsRange : List ℕ → ℕ → ℕ → Type 0
IsRange text i j = (i ≤ j) × IsCharBoundary text i × IsCharBoundary text j

-- the range of line k of a text, without its newline, if the text has that many lines
abbrev pub range_of_line : List ℕ → ℕ → Option (Range ℕ)
range_of_line text k = option_map (λ line. between (start_of_line text k) (start_of_line text k + length line)) (slice_get (lines text) k)
