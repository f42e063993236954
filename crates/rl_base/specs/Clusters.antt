-- The grapheme clusters of a text, and the places that lie a number of clusters ahead or back.
use Rattle.std.specs.Prelude.{ℕ, ◌+◌, ◌-◌, true, ◌||◌, ◌==◌, List, length, take, drop, reverse, Option, Some, None, if◌then◌else◌}
use Rattle.std.specs.List.{concat}
use Rattle.unicode_segmentation.specs.Grapheme.{graphemes}

-- the extended grapheme clusters of a text cut by itself, each as its bytes
abbrev pub clusters : List ℕ → List (List ℕ)
clusters text = graphemes true text

-- how many bytes the pieces have
abbrev pub bytes_in : List (List ℕ) → ℕ
bytes_in pieces = length (concat pieces)

-- past the first n clusters from the place on, or past all of them; none at the end and for n = 0
abbrev pub next_pos : List ℕ → ℕ → ℕ → Option ℕ
next_pos text pos n =
    if (n == 0) || (pos == length text) then None else Some (pos + bytes_in (take n (clusters (drop pos text))))

-- before the last n clusters before the place, or before all of them; none at the start and for n = 0
abbrev pub prev_pos : List ℕ → ℕ → ℕ → Option ℕ
prev_pos text pos n =
    if (n == 0) || (pos == 0) then None else Some (pos - bytes_in (take n (reverse (clusters (take pos text)))))
