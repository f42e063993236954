-- The table of a line's text: where its lines begin, except the first.
use Rattle.rl_base.specs.Lines.{is_newline}
use Rattle.std.specs.List.{enumerate_from}
use Rattle.std.specs.Prelude.{List, drop, filter, length, map, take, ℕ, ◌++◌, ◌-◌, ◌≡◌, ◌≤◌}

-- the places right after the newlines of a text whose first byte ends at n
abbrev pub after_newlines : ℕ → List ℕ → List ℕ
after_newlines n text = map (λ b. b.0) (filter (λ b. is_newline b.1) (enumerate_from n text))

-- the places right after each newline of a text
abbrev pub line_starts : List ℕ → List ℕ
line_starts text = after_newlines 1 text

-- a place of a text of length len, counted from its end
abbrev pub from_end : ℕ → ℕ → ℕ
from_end len place = len - place

-- the starts of a text, counted from its end
abbrev pub starts_from_end : List ℕ → List ℕ
starts_from_end text = map (from_end (length text)) (line_starts text)

-- what a table keeps: the starts before the border as they are, those from it on counted from the text's end
abbrev pub kept_starts : ℕ → List ℕ → List ℕ
kept_starts border text = take border (line_starts text) ++ drop border (starts_from_end text)

-- the table of a text, with its border
pub record IsTable (places : List ℕ) (border : ℕ) (text : List ℕ) : Type 0 where
  pub kept : places ≡ kept_starts border text
  pub within : border ≤ length places
