-- A line whose text has a gap, for the time of many steps.
use Rattle.rl_base.specs.Lines.{line_number}
use Rattle.rl_line.specs.LineStarts.{IsTable}
use Rattle.rl_line.specs.RoomyLine.{RoomyLine}
use Rattle.std.specs.List.{remove_range}
use Rattle.std.specs.Prelude.{Bool, List, length, true, ℕ, ◌+◌, ◌-◌, ◌≡◌, ◌≤◌}
use Rattle.std.specs.Str.{IsCharBoundary, IsUtf8}

-- a line, for how much there is memory, and the place of the gap in its text
pub record Gapped : Type 0 where
  pub roomy : RoomyLine
  pub gap : ℕ

abbrev pub gapped_of : RoomyLine → ℕ → Gapped
gapped_of roomy gap = record { roomy = roomy; gap = gap }

-- the table of a text without what lies between its first `front` and its last `back` bytes, with the border there
pub record IsTableAround (starts : List ℕ) (border front back : ℕ) (text : List ℕ) : Type 0 where
  pub order : front + back ≤ length text
  pub table : IsTable starts border (remove_range text front (length text - back))
  pub seam : border ≡ line_number text front

-- a text is that of a line, and the table, if there is one, belongs to it
pub record IsAround (text starts : List ℕ) (border front back : ℕ) (has_table : Bool) (cursor limit : ℕ) : Type 0 where
  pub utf8 : IsUtf8 text
  pub table : has_table ≡ true → IsTableAround starts border front back text
  pub at_boundary : IsCharBoundary text cursor
  pub within : length text ≤ limit

-- the gap lies within the bytes, and what is beside it is the text
pub record IsGapped (bytes starts : List ℕ) (gap rest border front back : ℕ) (has_table : Bool) (cursor limit : ℕ) : Type 0 where
  pub order : gap ≤ rest
  pub inside : rest ≤ length bytes
  pub around : IsAround (remove_range bytes gap rest) starts border front back has_table cursor limit
