-- How the rows of a screen show a text: the row and the column of a place, both from 0, and the places where rows begin.
use Rattle.std.specs.Prelude.{Bool, false, not, ◌&&◌, ◌||◌, ◌==◌, ℕ, zero, suc, ◌+◌, ◌-◌, ◌%◌, ◌≤◌, ◌<◌, min, max, nat_le, nat_lt, get_or, List, [], ◌∷◌, ◌++◌, length, take, drop, replicate, Some, slice_get, ◌≡◌, if◌then◌else◌}
use Rattle.std.specs.Char.{is_control}
use Rattle.std.specs.List.{list_any}
use Rattle.std.specs.Str.{bytes_eq, chars}
use Rattle.rl_base.specs.Clusters.{clusters}
use Rattle.rl_base.specs.Lines.{is_newline}
use Rattle.rl_base.specs.Widths.{width}
use Rattle.rl_base.specs.declared.screen.Screen.{Screen}

-- at the right edge or past it, the next cluster would stand in the next row
abbrev pub wrapped : ℕ → ℕ × ℕ → ℕ × ℕ
wrapped columns at = if nat_le columns at.1 then (at.0 + 1, 0) else at

-- the two clusters that end a line: "\n", and "\r\n", which is one cluster
abbrev pub is_line_end : List ℕ → Bool
is_line_end cluster = bytes_eq cluster (10 ∷ []) || bytes_eq cluster (13 ∷ (10 ∷ []))

abbrev pub is_tab : List ℕ → Bool
is_tab cluster = bytes_eq cluster (9 ∷ [])

-- a cluster that holds a control character, which a terminal does not show
abbrev pub has_control : List ℕ → Bool
has_control cluster = list_any is_control (chars cluster)

-- one cell is another, or before it: in a row above, or in its row and not to the right of it
abbrev pub is_within : ℕ × ℕ → ℕ × ℕ → Bool
is_within at cell = nat_lt at.0 cell.0 || ((at.0 == cell.0) && nat_le at.1 cell.1)

-- of places with their cells, in order, the last whose cell is not after the given one; `found` if there is none
abbrev pub last_within : ℕ × ℕ → ℕ → List (ℕ × (ℕ × ℕ)) → ℕ
last_within cell found [] = found
last_within cell found (p ∷ more) = last_within cell (if is_within p.1 cell then p.0 else found) more

-- of places with their cells, in order, where the rows begin of which `begun` have begun: each at the first place that
-- stands in it or in a row below
abbrev pub begins : ℕ → List (ℕ × (ℕ × ℕ)) → List ℕ
begins begun [] = []
begins begun (p ∷ more) = replicate (p.1.0 + 1 - begun) p.0 ++ begins (max begun (p.1.0 + 1)) more

-- as many of the values as fit, over the front of what was there
abbrev pub filled : {A : Type 0} → List A → List A → List A
filled values out = take (length out) (values ++ drop (length values) out)

-- the same after the first of what was there, as many as a number says
abbrev pub filled_after : {A : Type 0} → ℕ → List A → List A → List A
filled_after n values out = take n out ++ filled values (drop n out)

-- no line begins at a place
abbrev pub is_in_line : List ℕ → ℕ → Bool
is_in_line text zero = false
is_in_line text (suc p) = not (is_newline (get_or text p 0))

module _ (screen : Screen) where
  -- the columns of a cluster: of a control character those that the screen says, if it says some
  abbrev pub columns_of : List ℕ → ℕ
  columns_of cluster = if nat_lt 0 screen.controls && has_control cluster then screen.controls else width screen.mode cluster

  -- after a tab: it goes to the next tab stop, or to the right edge if that is nearer; at the edge, in the next row
  abbrev pub tabbed : ℕ × ℕ → ℕ × ℕ
  tabbed at =
      if nat_lt at.1 screen.columns then (at.0, min screen.columns (at.1 + (screen.tab - at.1 % screen.tab)))
      else (at.0 + 1, min screen.columns screen.tab)

  -- after a cluster of so many columns: one that does not fit on what is left of its row goes to the next. One without columns fits
  -- also at the right edge and past it, as after a prompt that is wider than a row
  abbrev pub fitted : ℕ × ℕ → ℕ → ℕ × ℕ
  fitted at columns = if (columns == 0) || nat_le (at.1 + columns) screen.columns then (at.0, at.1 + columns) else (at.0 + 1, columns)

  -- after a cluster: the end of a line goes to the next row, where the next line begins
  abbrev pub after : ℕ × ℕ → List ℕ → ℕ × ℕ
  after at cluster =
      if is_line_end cluster then (at.0 + 1, screen.continuation) else
      if is_tab cluster && nat_lt 0 screen.tab then tabbed at else
      fitted at (columns_of cluster)

  -- where a cluster of so many columns stands: at the start of the next row if it does not fit on what is left of its row
  abbrev pub fitting : ℕ × ℕ → ℕ → ℕ × ℕ
  fitting at columns = if nat_le (at.1 + columns) screen.columns then wrapped screen.columns at else (at.0 + 1, 0)

  -- where a cluster stands
  abbrev pub stands : ℕ × ℕ → List ℕ → ℕ × ℕ
  stands at cluster =
      if is_line_end cluster || (is_tab cluster && nat_lt 0 screen.tab) then wrapped screen.columns at else fitting at (columns_of cluster)

  -- where the first of the clusters stands that ends after a place, each laid out after the one before; or where they end
  abbrev pub laid : ℕ → ℕ × ℕ → List (List ℕ) → ℕ × ℕ
  laid place at [] = wrapped screen.columns at
  laid place at (cluster ∷ more) = if nat_le (length cluster) place then laid (place - length cluster) (after at cluster) more else stands at cluster

  -- the cell of a place in a text, which begins at the column of the prompt in row 0
  abbrev pub cell : List ℕ → ℕ → ℕ × ℕ
  cell text place = laid place (0, screen.prompt) (clusters text)

  -- the places before, between and after clusters, each with its cell, from a place and where the first is laid on
  abbrev pub cells : ℕ → ℕ × ℕ → List (List ℕ) → List (ℕ × (ℕ × ℕ))
  cells place at [] = (place, wrapped screen.columns at) ∷ []
  cells place at (cluster ∷ more) = (place, stands at cluster) ∷ cells (place + length cluster) (after at cluster) more

  -- those of a text
  abbrev pub cells_of : List ℕ → List (ℕ × (ℕ × ℕ))
  cells_of text = cells 0 (0, screen.prompt) (clusters text)

  -- the k-th of those, from 0, is this place with this cell
  abbrev pub StandsAt : List ℕ → ℕ → ℕ → ℕ × ℕ → Type 0
  StandsAt text k place at = slice_get (cells_of text) k ≡ Some (place, at)

  -- the place in a text whose cell is the last that is not after the given one
  abbrev pub place_at : List ℕ → ℕ × ℕ → ℕ
  place_at text cell = last_within cell 0 (cells_of text)

  -- the places of a text where its rows begin, from row 0 on
  abbrev pub rows : List ℕ → List ℕ
  rows text = begins 0 (cells_of text)

  -- the column from which a text is laid out from a place on where a row begins: a line begins after its prompt, and what stands
  -- within a line comes after a full row, which is row 0
  abbrev pub first_column : List ℕ → ℕ → ℕ
  first_column text place = if is_in_line text place then screen.columns else if place == 0 then screen.prompt else screen.continuation

  abbrev pub screen_from : List ℕ → ℕ → Screen
  screen_from text place = record screen { prompt = first_column text place }

  -- the places where rows begin from there on
  abbrev pub rows_from : List ℕ → ℕ → List ℕ
  rows_from text place = begins (if is_in_line text place then 1 else 0) (cells place (0, first_column text place) (clusters (drop place text)))

  -- a place stands in a row that begins at it or before it, and the next row, if there is one, begins after it
  pub record InRow (text : List ℕ) (place row : ℕ) : Type 0 where
    pub start : ℕ
    pub is_start : slice_get (rows text) row ≡ Some start
    pub from : start ≤ place
    pub next : (after : ℕ) → slice_get (rows text) (row + 1) ≡ Some after → place < after
