-- The rows of a screen on which each line of a text is laid out by itself, and where motions over them go.
use Rattle.rl_base.specs.Lines.{end_of_line, last_line, line_number, start_of_line}
use Rattle.rl_base.specs.Screen.{cell, place_at, screen_from}
use Rattle.rl_base.specs.declared.screen.Screen.{Screen}
use Rattle.std.specs.Prelude.{List, MatchOption, None, Option, Some, get_or, if◌then◌else◌, length, max, nat_le, nat_lt, slice_range, take, unwrap_or, ℕ, ◌&&◌, ◌+◌, ◌-◌, ◌<◌, ◌==◌, ◌≡◌, ◌≤◌}

module _ (text : List ℕ) where
  -- what follows a place in line k, before its newline, which is "\n" or "\r\n"
  abbrev pub rest_of_line : ℕ → ℕ → List ℕ
  rest_of_line k from =
      let rest = slice_range text from (end_of_line text k) in
      if nat_lt k (last_line text) && (get_or rest (length rest - 1) 0 == 13) then take (length rest - 1) rest else rest

  -- how many rows line k takes that ends at a cell: the next row, to which the right edge leads, is one of the last line, for the
  -- cursor there; after any other line it is the row in which the next line begins
  abbrev pub rows_to : ℕ → ℕ × ℕ → ℕ
  rows_to k end = if nat_lt k (last_line text) && (end.1 == 0) then max 1 end.0 else end.0 + 1

  -- the start of the line of a place
  abbrev pub own_start : ℕ → ℕ
  own_start place = start_of_line text (line_number text place)

  -- where the line of a place is laid out from: at the given place, if that lies between the line's start and the place
  abbrev pub near : Option ℕ → ℕ → ℕ
  near None place = own_start place
  near (Some from) place = if nat_le (own_start place) from && nat_le from place then from else own_start place

module _ (screen : Screen) (text : List ℕ) where
  -- where that ends, if a row begins at the place; one that ends at the right edge does at column 0 of the next row
  abbrev pub line_end : ℕ → ℕ → ℕ × ℕ
  line_end k from = cell (screen_from screen text from) (rest_of_line text k from) (length (rest_of_line text k from))

  -- how many rows that takes
  abbrev pub height : ℕ → ℕ → ℕ
  height k from = rows_to text k (line_end k from)

  -- the row of a later place of the line, from 0, and its column there
  abbrev pub cell_after : ℕ → ℕ → ℕ → ℕ × ℕ
  cell_after k from place = cell (screen_from screen text from) (rest_of_line text k from) (place - from)

  -- the place at a column of such a row, or the last one before that column
  abbrev pub place_in_row : ℕ → ℕ → ℕ → ℕ → ℕ
  place_in_row k from row column = from + place_at (screen_from screen text from) (rest_of_line text k from) (row, column)

  -- for a motion up by n rows: at the line's start, if the given place lies below the row that it leads to
  abbrev pub near_above : Option ℕ → ℕ → ℕ → ℕ
  near_above given n place = if nat_lt n (cell_after (line_number text place) (near text given place) place).0 then near text given place else own_start text place

  -- the row that lies n rows below a row of line k, by its line, where that is laid out from, and its number there: in that line, or
  -- n rows less in the next; none below the last line
  pub data Below : ℕ → ℕ → ℕ → ℕ → Option (ℕ × (ℕ × ℕ)) → Type 0 where
    stays_below : {k from row n : ℕ} → row + n < height k from → Below k from row n (Some (k, (from, row + n)))
    goes_below : {k from row n left : ℕ} {to : Option (ℕ × (ℕ × ℕ))} → k < last_line text → row + n ≡ height k from + left
        → Below (k + 1) (start_of_line text (k + 1)) 0 left to → Below k from row n to
    stops_below : {k from row n : ℕ} → k ≡ last_line text → height k from ≤ row + n → Below k from row n None

  -- the row that lies n rows above a row of line k: in that line, or in the one before, counted from its last row; none above
  -- the first line
  pub data Above : ℕ → ℕ → ℕ → ℕ → Option (ℕ × (ℕ × ℕ)) → Type 0 where
    stays_above : {k from row n : ℕ} → n ≤ row → Above k from row n (Some (k, (from, row - n)))
    goes_above : {k from row n left : ℕ} {to : Option (ℕ × (ℕ × ℕ))} → n ≡ row + 1 + left
        → Above k (start_of_line text k) (height k (start_of_line text k) - 1) left to → Above (k + 1) from row n to
    stops_above : {from row n : ℕ} → row < n → Above 0 from row n None

  -- a motion by rows tells the place at the column of the row that it comes to, and that column; nothing if there is no such row
  abbrev pub Tells : (Option (ℕ × (ℕ × ℕ)) → Type 0) → ℕ → Option (ℕ × ℕ) → Type 0
  Tells Comes column told =
      MatchOption told (Comes None) (λ t. (to : ℕ × (ℕ × ℕ)) × Comes (Some to) × (t ≡ (place_in_row to.0 to.1.0 to.1.1 column, column)))

  -- the motions of a place by n rows: to the given column, or to that of the place
  abbrev pub TellsBelow : Option ℕ → ℕ → Option ℕ → ℕ → Option (ℕ × ℕ) → Type 0
  TellsBelow given n column place told =
      let k = line_number text place in
      let from = near text given place in
      let at = cell_after k from place in
      Tells (Below k from at.0 n) (unwrap_or column at.1) told

  abbrev pub TellsAbove : Option ℕ → ℕ → Option ℕ → ℕ → Option (ℕ × ℕ) → Type 0
  TellsAbove given n column place told =
      let k = line_number text place in
      let from = near_above given n place in
      let at = cell_after k from place in
      Tells (Above k from at.0 n) (unwrap_or column at.1) told
