-- The lines of a script.
use Rattle.std.specs.Prelude.{ℕ, ◌==◌, List, [], ◌∷◌, if◌then◌else◌}

-- a byte in front of the first line
abbrev pub onto : ℕ → List (List ℕ) → List (List ℕ)
onto b [] = (b ∷ []) ∷ []
onto b (line ∷ lines) = (b ∷ line) ∷ lines

-- a line ends at a newline or at the end; if nothing is left after the last newline, there is no line
abbrev pub lines_of : List ℕ → List (List ℕ)
lines_of [] = []
lines_of (b ∷ bs) = if b == 10 then [] ∷ lines_of bs else onto b (lines_of bs)

-- a byte in front of the first line, if there is one
abbrev pub onto_some : ℕ → List (List ℕ) → List (List ℕ)
onto_some b [] = []
onto_some b (line ∷ lines) = (b ∷ line) ∷ lines

-- the lines that were read whole, if no more was read than this: each ends at a newline
abbrev pub whole_lines : List ℕ → List (List ℕ)
whole_lines [] = []
whole_lines (b ∷ bs) = if b == 10 then [] ∷ whole_lines bs else onto_some b (whole_lines bs)
