-- A line, and for how much there is memory.
use Rattle.rl_line.specs.Line.{Line}
use Rattle.std.specs.Prelude.{List, length, ℕ, ◌≤◌}

-- a line, and for how many bytes of a text there is memory
pub record RoomyLine : Type 0 where
  pub line : Line
  pub bytes : ℕ

-- a line, with memory for so many bytes
abbrev pub roomy_of : Line → ℕ → RoomyLine
roomy_of line bytes = record { line = line; bytes = bytes }

-- there is memory for a text
abbrev pub HasRoom : List ℕ → RoomyLine → Type 0
HasRoom text roomy = length text ≤ roomy.bytes

-- there is as much memory as before, or more, and so enough for the text that was there
pub record KeepsRoom (old new : RoomyLine) : Type 0 where
  pub bytes : old.bytes ≤ new.bytes
  pub back : HasRoom old.line.text new
