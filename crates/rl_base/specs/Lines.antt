-- A text cut into lines at its newlines.
use Rattle.std.specs.Prelude.{ℕ, ◌+◌, Bool, ◌==◌, List, [], ◌∷◌, take, length, slice_index_or, count_by}
use Rattle.std.specs.List.{slice_split}
use Rattle.rl_base.specs.Clusters.{clusters, bytes_in}

abbrev pub is_newline : ℕ → Bool
is_newline b = b == 10

-- the texts of the lines, without their newlines
abbrev pub lines : List ℕ → List (List ℕ)
lines text = slice_split is_newline text

-- how many bytes lines have, each with its newline
abbrev pub bytes_of : List (List ℕ) → ℕ
bytes_of [] = 0
bytes_of (line ∷ more) = length line + 1 + bytes_of more

-- the number of the last line, from 0
abbrev pub last_line : List ℕ → ℕ
last_line text = count_by is_newline text

-- the number of the line that a place lies in; a newline belongs to the line that it ends
abbrev pub line_number : List ℕ → ℕ → ℕ
line_number text pos = count_by is_newline (take pos text)

-- the place where line k begins
abbrev pub start_of_line : List ℕ → ℕ → ℕ
start_of_line text k = bytes_of (take k (lines text))

-- the text of line k
abbrev pub text_of_line : List ℕ → ℕ → List ℕ
text_of_line text k = slice_index_or (lines text) k []

-- the place where that text ends
abbrev pub end_of_line : List ℕ → ℕ → ℕ
end_of_line text k = start_of_line text k + length (text_of_line text k)

-- the place before the cluster numbered `column` of a line's text, from 0, or its end if there are fewer
abbrev pub place_of_column : List ℕ → ℕ → ℕ
place_of_column line column = bytes_in (take column (clusters line))
