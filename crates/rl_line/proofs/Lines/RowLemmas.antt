-- Rows above and below, by the numbers that the code compares.
use Rattle.rl_line.proofs.Common.{Bool, IsUtf8, List, None, Option, Some, [], ap, ap₂, arith, cond, eqb-true, false, last_line, length, length-append, max, nat_lt, nat_tests, refl, start_of_line, subst, sym, true, ℕ, ◌&&◌, ◌+◌, ◌-◌, ◌<◌, ◌==◌, ◌∙◌, ◌∷◌, ◌≡◌, ◌≤◌}
use Rattle.rl_base.proofs.Clusters.ClusterLemmas.{bytes_in-clusters}
use Rattle.rl_base.proofs.Clusters.RowLemmas.{cell-end, end_cell}
use Rattle.rl_base.proofs.Texts.TextLemmas.{and_right}
use Rattle.rl_base.specs.Clusters.{bytes_in, clusters}
use Rattle.rl_base.specs.Screen.{after, cell, cells, is_within, last_within, place_at, screen_from, stands}
use Rattle.rl_base.specs.declared.screen.Screen.{Screen}
use Rattle.rl_line.specs.Rows.{Above, Below, cell_after, goes_above, goes_below, height, line_end, rest_of_line, stays_above, stays_below, stops_above, stops_below}
use Rattle.std.specs.List.{concat}

module _ (screen : Screen) (text : List ℕ) where
  pub stops-above : (k from row n : ℕ) → k ≡ 0 → row < n → Above screen text k from row n None
  stops-above k from row n e lt = subst (λ k. Above screen text k from row n None) (sym e) (stops_above lt)

  pub goes-above : (k j from row n left start last : ℕ) (to : Option (ℕ × (ℕ × ℕ))) → k ≡ j + 1 → n ≡ row + 1 + left → start ≡ start_of_line text j
      → last ≡ height screen text j start - 1 → Above screen text j start last left to → Above screen text k from row n to
  goes-above k j from row n left start last to e split begins ends h =
      let there : Above screen text j (start_of_line text j) (height screen text j (start_of_line text j) - 1) left to =
      subst (λ s. Above screen text j s (height screen text j s - 1) left to) begins (subst (λ r. Above screen text j start r left to) ends h) in
      subst (λ k. Above screen text k from row n to) (sym e) (goes_above split there)

  pub comes-above : (k from row n : ℕ) → n ≤ row → Above screen text k from row n (Some (k, (from, row - n)))
  comes-above k from row n le = stays_above le

  pub stops-below : (k from row n : ℕ) → k ≡ last_line text → height screen text k from ≤ row + n → Below screen text k from row n None
  stops-below k from row n last le = stops_below last le

  pub goes-below : (k from row n left start : ℕ) (to : Option (ℕ × (ℕ × ℕ))) → k < last_line text → row + n ≡ height screen text k from + left
      → start ≡ start_of_line text (k + 1) → Below screen text (k + 1) start 0 left to → Below screen text k from row n to
  goes-below k from row n left start to lt split begins h = goes_below lt split (subst (λ s. Below screen text (k + 1) s 0 left to) begins h)

  pub comes-below : (k from row n : ℕ) → row + n < height screen text k from → Below screen text k from row n (Some (k, (from, row + n)))
  comes-below k from row n lt = stays_below lt

  -- the line that the code found, where it lays that out from, and the cell there
  pub own-cell : (k k' from from' pos : ℕ) (at : ℕ × ℕ) → at ≡ cell_after screen text k from pos → k ≡ k' → from ≡ from' → at ≡ cell_after screen text k' from' pos
  own-cell k k' from from' pos at e same begins = e ∙ ap₂ (λ k from. cell_after screen text k from pos) same begins

  pub below-own : (k k' from from' row row' n n' : ℕ) (to : Option (ℕ × (ℕ × ℕ))) → k ≡ k' → from ≡ from' → row ≡ row' → n ≡ n'
      → Below screen text k from row n to → Below screen text k' from' row' n' to
  below-own k k' from from' row row' n n' to line begins same times h =
      subst (λ n. Below screen text k' from' row' n to) times
      (subst (λ r. Below screen text k' from' r n to) same (subst (λ s. Below screen text k' s row n to) begins (subst (λ k. Below screen text k from row n to) line h)))

  pub above-own : (k k' from from' row row' n n' : ℕ) (to : Option (ℕ × (ℕ × ℕ))) → k ≡ k' → from ≡ from' → row ≡ row' → n ≡ n'
      → Above screen text k from row n to → Above screen text k' from' row' n' to
  above-own k k' from from' row row' n n' to line begins same times h =
      subst (λ n. Above screen text k' from' row' n to) times
      (subst (λ r. Above screen text k' from' r n to) same (subst (λ s. Above screen text k' s row n to) begins (subst (λ k. Above screen text k from row n to) line h)))

-- the place that is found for the cell at which clusters end, or one after it, is that after them all
found-end : (screen : Screen) (to : ℕ × ℕ) (found place : ℕ) (at : ℕ × ℕ) (cs : List (List ℕ)) → is_within (end_cell screen at cs) to ≡ true
    → last_within to found (cells screen place at cs) ≡ place + bytes_in cs
found-end screen to found place at [] e = ap (λ b. cond b place found) e ∙ omega arith
found-end screen to found place at (cluster ∷ more) e =
    found-end screen to (cond (is_within (stands screen at cluster) to) place found) (place + length cluster) (after screen at cluster) more e
    ∙ omega (arith, length-append cluster (concat more))

-- so a place before the end is found only for a cell before that of the end
pub not-at-end : (screen : Screen) (text : List ℕ) (to : ℕ × ℕ) → IsUtf8 text → place_at screen text to < length text
    → is_within (cell screen text (length text)) to ≡ false
not-at-end screen text to u lt = by_test (is_within (end_cell screen (0, screen.prompt) (clusters text)) to) refl
  where
    by_test : (b : Bool) → is_within (end_cell screen (0, screen.prompt) (clusters text)) to ≡ b → is_within (cell screen text (length text)) to ≡ false
    by_test true e = absurd (omega (arith, lt, found-end screen to 0 0 (0, screen.prompt) (clusters text) e, bytes_in-clusters text u))
    by_test false e = ap (λ x. is_within x to) (cell-end screen text u) ∙ e

-- and the row of such a cell is one of the line
low : (edge : Bool) (ends to : ℕ × ℕ) → (edge ≡ true → ends.1 ≡ 0) → is_within ends to ≡ false → to.0 < cond edge (max 1 ends.0) (ends.0 + 1)
low true ends to zero e = let column = zero refl in grind (arith, nat_tests)
low false ends to zero e = grind (arith, nat_tests)

pub within-height : (screen : Screen) (text : List ℕ) (k from row column place : ℕ) (rest : List ℕ) → IsUtf8 rest → rest ≡ rest_of_line text k from
    → place ≡ place_at (screen_from screen text from) rest (row, column) → place < length rest → row < height screen text k from
within-height screen text k from row column place rest u is found lt =
    let on = screen_from screen text from in
    let past : is_within (line_end screen text k from) (row, column) ≡ false =
    subst (λ l. is_within (cell on l (length l)) (row, column) ≡ false) is (not-at-end on rest (row, column) u (subst (λ p. p < length rest) found lt)) in
    low (nat_lt k (last_line text) && ((line_end screen text k from).1 == 0)) (line_end screen text k from) (row, column)
    (λ e. eqb-true (line_end screen text k from).1 0 (and_right (nat_lt k (last_line text)) ((line_end screen text k from).1 == 0) e)) past
