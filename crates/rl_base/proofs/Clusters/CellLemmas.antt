-- Cells of a text, one after another, and the place that is found for one of them.
use Rattle.std.proofs.Common.{◌⊎◌, inl, inr, ◌≡◌, ℕ, zero, suc, cond, ◌+◌, ◌-◌, ◌%◌, ◌≤◌, ◌<◌, ◌==◌, eqb-true, ◌&&◌, ◌||◌, All, min, nat_le, nat_lt, Bool, true, false, List, [], ◌∷◌, length, slice_get, unwrap_or, MatchOption, Some, arith, refl, sym, ap, subst, ◌∙◌}
use Rattle.std.proofs.lemmas.Bool.Decides.{nat_tests}
use Rattle.std.proofs.lemmas.List.Elements.{All-head, All-tail}
use Rattle.rl_base.specs.Clusters.{clusters}
use Rattle.rl_base.proofs.Clusters.PieceLemmas.{clusters-some}
use Rattle.rl_base.specs.Screen.{after, cells, cells_of, columns_of, fitted, fitting, is_line_end, is_tab, is_within, laid, last_within, stands, tabbed, wrapped}
use Rattle.rl_base.specs.declared.screen.Screen.{Screen}

within-trans : (a b c : ℕ × ℕ) → is_within a b ≡ true → is_within b c ≡ true → is_within a c ≡ true
within-trans a b c e f = grind (arith, nat_tests)

within-self : (a : ℕ × ℕ) → is_within a a ≡ true
within-self a = grind (arith, nat_tests)

within-both : (a b : ℕ × ℕ) → is_within a b ≡ true → is_within b a ≡ true → a ≡ b
within-both (r, c) (r', c') e f =
    let rows : r ≡ r' = grind (arith, nat_tests) in
    let columns : c ≡ c' = grind (arith, nat_tests) in
    ap (λ x. (x, c)) rows ∙ ap (λ x. (r', x)) columns

-- what is laid on in the next row, or farther right in the same one, has no cell before
next-row : (columns r c w : ℕ) → is_within (wrapped columns (r, c)) (wrapped columns (r + 1, w)) ≡ true
next-row columns r c w = grind (arith, nat_tests)

same-row : (columns r c d : ℕ) → c ≤ d → is_within (wrapped columns (r, c)) (wrapped columns (r, d)) ≡ true
same-row columns r c d le = grind (arith, nat_tests)

-- where laying out goes on after a cluster is not before where the cluster stands
after-stands : (screen : Screen) (at : ℕ × ℕ) (cluster : List ℕ) → is_within (stands screen at cluster) (wrapped screen.columns (after screen at cluster)) ≡ true
after-stands screen (r, c) cluster = by_end (is_line_end cluster)
  where
    Goes : ℕ × ℕ → ℕ × ℕ → Type 0
    Goes from to = is_within from (wrapped screen.columns to) ≡ true

    fits : (w : ℕ) (none b : Bool) → (w == 0) ≡ none → nat_le (c + w) screen.columns ≡ b
        → Goes (cond b (wrapped screen.columns (r, c)) (r + 1, 0)) (cond (none || b) (r, c + w) (r + 1, w))
    fits w true true z e = same-row screen.columns r c (c + w) (omega arith)
    fits w false true z e = same-row screen.columns r c (c + w) (omega arith)
    fits w true false z e = let zero_wide = eqb-true w 0 z in grind (arith, nat_tests)
    fits w false false z e = grind (arith, nat_tests)

    stop : (b : Bool) → nat_lt c screen.columns ≡ b
        → Goes (wrapped screen.columns (r, c)) (cond b (r, min screen.columns (c + (screen.tab - c % screen.tab))) (r + 1, min screen.columns screen.tab))
    stop true e = same-row screen.columns r c (min screen.columns (c + (screen.tab - c % screen.tab))) (grind (arith, nat_tests))
    stop false e = next-row screen.columns r c (min screen.columns screen.tab)

    by_tab : (b : Bool) → Goes (cond b (wrapped screen.columns (r, c)) (fitting screen (r, c) (columns_of screen cluster)))
        (cond b (tabbed screen (r, c)) (fitted screen (r, c) (columns_of screen cluster)))
    by_tab true = stop (nat_lt c screen.columns) refl
    by_tab false = fits (columns_of screen cluster) (columns_of screen cluster == 0) (nat_le (c + columns_of screen cluster) screen.columns) refl refl

    by_end : (b : Bool)
        → Goes (cond (b || (is_tab cluster && nat_lt 0 screen.tab)) (wrapped screen.columns (r, c)) (fitting screen (r, c) (columns_of screen cluster)))
        (cond b (r + 1, screen.continuation) (cond (is_tab cluster && nat_lt 0 screen.tab) (tabbed screen (r, c)) (fitted screen (r, c) (columns_of screen cluster))))
    by_end true = next-row screen.columns r c screen.continuation
    by_end false = by_tab (is_tab cluster && nat_lt 0 screen.tab)

-- a cluster does not stand before where it is laid out
stands-after : (screen : Screen) (at : ℕ × ℕ) (cluster : List ℕ) → is_within (wrapped screen.columns at) (stands screen at cluster) ≡ true
stands-after screen (r, c) cluster = by_test (is_line_end cluster || (is_tab cluster && nat_lt 0 screen.tab))
  where
    fits : (b : Bool) → is_within (wrapped screen.columns (r, c)) (cond b (wrapped screen.columns (r, c)) (r + 1, 0)) ≡ true
    fits true = within-self (wrapped screen.columns (r, c))
    fits false = grind (arith, nat_tests)

    by_test : (b : Bool) → is_within (wrapped screen.columns (r, c)) (cond b (wrapped screen.columns (r, c)) (fitting screen (r, c) (columns_of screen cluster))) ≡ true
    by_test true = within-self (wrapped screen.columns (r, c))
    by_test false = fits (nat_le (c + columns_of screen cluster) screen.columns)

-- where the first of the clusters stands, or where laying out ends
abbrev pub first_cell : Screen → ℕ × ℕ → List (List ℕ) → ℕ × ℕ
first_cell screen at [] = wrapped screen.columns at
first_cell screen at (cluster ∷ more) = stands screen at cluster

-- the next place has no cell before
pub within-after : (screen : Screen) (at : ℕ × ℕ) (cluster : List ℕ) (more : List (List ℕ)) → is_within (stands screen at cluster) (first_cell screen (after screen at cluster) more) ≡ true
within-after screen at cluster [] = after-stands screen at cluster
within-after screen at cluster (next ∷ more) =
    within-trans (stands screen at cluster) (wrapped screen.columns (after screen at cluster)) (stands screen (after screen at cluster) next)
    (after-stands screen at cluster) (stands-after screen (after screen at cluster) next)

not-within : (a b c : ℕ × ℕ) → is_within a b ≡ true → is_within a c ≡ false → is_within b c ≡ false
not-within a b c e f = grind (arith, nat_tests)

-- if a cell is after the given one, so are those that follow
pub none-within : (screen : Screen) (cell : ℕ × ℕ) (place : ℕ) (at : ℕ × ℕ) (clusters : List (List ℕ)) (found : ℕ)
    → is_within (first_cell screen at clusters) cell ≡ false → last_within cell found (cells screen place at clusters) ≡ found
none-within screen cell place at [] found past = ap (λ b. cond b place found) past
none-within screen cell place at (cluster ∷ more) found past =
    ap (λ b. last_within cell (cond b place found) (cells screen (place + length cluster) (after screen at cluster) more)) past
    ∙ none-within screen cell (place + length cluster) (after screen at cluster) more found
    (not-within (stands screen at cluster) (first_cell screen (after screen at cluster) more) cell (within-after screen at cluster more) past)

-- of cells none of which is before the given one, the last that is not after it is that one; or all are after it
abbrev Chosen : ℕ × ℕ → ℕ → List (ℕ × (ℕ × ℕ)) → Type 0
Chosen cell found ps = (last_within cell found ps ≡ found) ⊎ ((j : ℕ) × (slice_get ps j ≡ Some (last_within cell found ps, cell)))

-- where the first is that one, it is chosen, or one after it
first-chosen : (cell : ℕ × ℕ) (found place : ℕ) (ps : List (ℕ × (ℕ × ℕ))) → last_within cell found ps ≡ place ⊎ ((j : ℕ) × (slice_get ps j ≡ Some (last_within cell found ps, cell)))
    → (j : ℕ) × (slice_get ((place, cell) ∷ ps) j ≡ Some (last_within cell found ps, cell))
first-chosen cell found place ps (inl e) = (0, ap (λ x. Some (x, cell)) (sym e))
first-chosen cell found place ps (inr h) = (suc h.0, h.1)

chosen-more : (cell at : ℕ × ℕ) (place found : ℕ) (ps : List (ℕ × (ℕ × ℕ))) → is_within cell at ≡ true → ((f : ℕ) → Chosen cell f ps) → Chosen cell found ((place, at) ∷ ps)
chosen-more cell at place found ps before rest = by_test (is_within at cell) refl
  where
    by_test : (b : Bool) → is_within at cell ≡ b
        → (last_within cell (cond b place found) ps ≡ found) ⊎ ((j : ℕ) × (slice_get ((place, at) ∷ ps) j ≡ Some (last_within cell (cond b place found) ps, cell)))
    by_test true e =
        inr (subst (λ x. (j : ℕ) × (slice_get ((place, x) ∷ ps) j ≡ Some (last_within cell place ps, cell))) (within-both cell at before e)
        (first-chosen cell place place ps (rest place)))
    by_test false e = later (rest found)
      where
        later : Chosen cell found ps → (last_within cell found ps ≡ found) ⊎ ((j : ℕ) × (slice_get ((place, at) ∷ ps) j ≡ Some (last_within cell found ps, cell)))
        later (inl e) = inl e
        later (inr h) = inr (suc h.0, h.1)

chosen-on : (screen : Screen) (cell : ℕ × ℕ) (place : ℕ) (at : ℕ × ℕ) (clusters : List (List ℕ)) (found : ℕ)
    → is_within cell (first_cell screen at clusters) ≡ true → Chosen cell found (cells screen place at clusters)
chosen-on screen cell place at [] found before = chosen-more cell (wrapped screen.columns at) place found [] before (λ f. inl refl)
chosen-on screen cell place at (cluster ∷ more) found before =
    chosen-more cell (stands screen at cluster) place found (cells screen (place + length cluster) (after screen at cluster) more) before
    (λ f. chosen-on screen cell (place + length cluster) (after screen at cluster) more f
    (within-trans cell (stands screen at cluster) (first_cell screen (after screen at cluster) more) before (within-after screen at cluster more)))

-- where the first has the cell, it is found, or one after it with the same cell
found-first : (cell at : ℕ × ℕ) (place found : ℕ) (ps : List (ℕ × (ℕ × ℕ))) → at ≡ cell → ((f : ℕ) → Chosen cell f ps)
    → (j : ℕ) × (0 ≤ j) × (slice_get ((place, at) ∷ ps) j ≡ Some (last_within cell found ((place, at) ∷ ps), cell))
found-first cell at place found ps e rest =
    let h = first-chosen cell place place ps (rest place) in
    let at_cell : (j : ℕ) × (0 ≤ j) × (slice_get ((place, cell) ∷ ps) j ≡ Some (last_within cell (cond (is_within cell cell) place found) ps, cell)) =
    subst (λ b. (j : ℕ) × (0 ≤ j) × (slice_get ((place, cell) ∷ ps) j ≡ Some (last_within cell (cond b place found) ps, cell))) (sym (within-self cell))
    (h.0, omega arith, h.1) in
    subst (λ x. (j : ℕ) × (0 ≤ j) × (slice_get ((place, x) ∷ ps) j ≡ Some (last_within cell (cond (is_within x cell) place found) ps, cell))) (sym e) at_cell

cell-of : (x : ℕ × (ℕ × ℕ)) (p : ℕ) (cell : ℕ × ℕ) → Some x ≡ Some (p, cell) → x.1 ≡ cell
cell-of x p cell e = ap (λ o. (unwrap_or o x).1) e

place-of : (x : ℕ × (ℕ × ℕ)) (p : ℕ) (cell : ℕ × ℕ) → Some x ≡ Some (p, cell) → x.0 ≡ p
place-of x p cell e = ap (λ o. (unwrap_or o x).0) e

pub found-from : (screen : Screen) (cell : ℕ × ℕ) (place : ℕ) (at : ℕ × ℕ) (clusters : List (List ℕ)) (found k p : ℕ) → slice_get (cells screen place at clusters) k ≡ Some (p, cell)
    → (j : ℕ) × (k ≤ j) × (slice_get (cells screen place at clusters) j ≡ Some (last_within cell found (cells screen place at clusters), cell))
found-from screen cell place at [] found zero p e = found-first cell (wrapped screen.columns at) place found [] (cell-of _ p cell e) (λ f. inl refl)
found-from screen cell place at [] found (suc k) p e = absurd (subst (λ o. MatchOption o (Unit {0}) (λ _. ⊥)) e tt)
found-from screen cell place at (cluster ∷ more) found zero p e =
    let is = cell-of (place, stands screen at cluster) p cell e in
    let before = subst (λ x. is_within x (first_cell screen (after screen at cluster) more) ≡ true) is (within-after screen at cluster more) in
    found-first cell (stands screen at cluster) place found (cells screen (place + length cluster) (after screen at cluster) more) is
    (λ f. chosen-on screen cell (place + length cluster) (after screen at cluster) more f before)
found-from screen cell place at (cluster ∷ more) found (suc k) p e =
    let r = found-from screen cell (place + length cluster) (after screen at cluster) more (cond (is_within (stands screen at cluster) cell) place found) k p e in
    (suc r.0, omega (arith, r.1), r.2)

-- a cluster that ends after the place is the one that stands there, and one that does not is laid out
pub laid-stops : (screen : Screen) (place : ℕ) (at : ℕ × ℕ) (ps more : List (List ℕ)) (cluster : List ℕ) → ps ≡ cluster ∷ more → place < length cluster
    → laid screen place at ps ≡ stands screen at cluster
laid-stops screen place at ps more cluster e past =
    let none : nat_le (length cluster) place ≡ false = grind (arith, nat_tests) in
    ap (laid screen place at) e ∙ ap (λ b. cond b (laid screen (place - length cluster) (after screen at cluster) more) (stands screen at cluster)) none

pub laid-goes : (screen : Screen) (place : ℕ) (at : ℕ × ℕ) (ps more : List (List ℕ)) (cluster : List ℕ) → ps ≡ cluster ∷ more → length cluster ≤ place
    → laid screen place at ps ≡ laid screen (place - length cluster) (after screen at cluster) more
laid-goes screen place at ps more cluster e fits =
    let all : nat_le (length cluster) place ≡ true = grind (arith, nat_tests) in
    ap (laid screen place at) e ∙ ap (λ b. cond b (laid screen (place - length cluster) (after screen at cluster) more) (stands screen at cluster)) all

-- the cell of a place between two clusters is the one that it has among all of them
cell-at : (screen : Screen) (place : ℕ) (at : ℕ × ℕ) (clusters : List (List ℕ)) (k p : ℕ) (c : ℕ × ℕ) → All (λ (cluster : List ℕ). 0 < length cluster) clusters
    → slice_get (cells screen place at clusters) k ≡ Some (p, c) → (m : ℕ) × (p ≡ place + m) × (c ≡ laid screen m at clusters)
cell-at screen place at [] zero p c some e = (0, omega (arith, place-of (place, wrapped screen.columns at) p c e), sym (cell-of (place, wrapped screen.columns at) p c e))
cell-at screen place at [] (suc k) p c some e = absurd (subst (λ o. MatchOption o (Unit {0}) (λ _. ⊥)) e tt)
cell-at screen place at (cluster ∷ more) zero p c some e = (
  0,
  omega (arith, place-of (place, stands screen at cluster) p c e),
  sym (cell-of (place, stands screen at cluster) p c e)
      ∙ sym (laid-stops screen 0 at (cluster ∷ more) more cluster refl (All-head (λ (x : List ℕ). 0 < length x) cluster more some)),
)
cell-at screen place at (cluster ∷ more) (suc k) p c some e =
    let r = cell-at screen (place + length cluster) (after screen at cluster) more k p c (All-tail (λ (x : List ℕ). 0 < length x) cluster more some) e in
    let left : r.0 ≡ length cluster + r.0 - length cluster = omega arith in (
      length cluster + r.0,
      omega (arith, r.1),
      r.2 ∙ ap (λ m. laid screen m (after screen at cluster) more) left
          ∙ sym (laid-goes screen (length cluster + r.0) at (cluster ∷ more) more cluster refl (omega arith)),
    )

pub cell-of_place : (screen : Screen) (text : List ℕ) (k place : ℕ) (c : ℕ × ℕ) → slice_get (cells_of screen text) k ≡ Some (place, c)
    → c ≡ laid screen place (0, screen.prompt) (clusters text)
cell-of_place screen text k place c e =
    let r = cell-at screen 0 (0, screen.prompt) (clusters text) k place c (clusters-some text) e in
    let same : r.0 ≡ place = omega (arith, r.1) in
    r.2 ∙ ap (λ m. laid screen m (0, screen.prompt) (clusters text)) same
