-- The places where rows begin, and what is written of them.
use Rattle.rl_base.proofs.Common.{◌≡◌, ℕ, zero, suc, ◌+◌, ◌-◌, ◌≤◌, ◌<◌, ◌++◌, All, max, Bool, true, false, cond, nat_le, nat_lt, List, [], ◌∷◌, length, take, replicate, slice_get, MatchOption, Some, same_Some, All-head, All-tail, length-append, length-replicate, nat_tests, arith, refl, sym, ap, subst, ◌∙◌}
use Rattle.std.specs.Prelude.{slice_set}
use Rattle.std.specs.List.{concat}
use Rattle.std.specs.Str.{IsUtf8}
use Rattle.rl_base.specs.Clusters.{bytes_in, clusters}
use Rattle.rl_base.specs.Screen.{after, begins, cell, cells, filled_after, is_within, laid, stands, wrapped}
use Rattle.rl_base.specs.declared.screen.Screen.{Screen}
use Rattle.rl_base.proofs.Clusters.CellLemmas.{first_cell, within-after}
use Rattle.rl_base.proofs.Clusters.ClusterLemmas.{bytes_in-clusters}

pub get-replicated : (m i p : ℕ) (ys : List ℕ) → i < m → slice_get (replicate m p ++ ys) i ≡ Some p
get-replicated (suc m) zero p ys lt = refl
get-replicated (suc m) (suc i) p ys lt = get-replicated m i p ys (omega arith)
get-replicated zero i p ys lt = absurd (omega (arith, lt))

pub get-past : (m i j p : ℕ) (ys : List ℕ) → j ≡ m + i → slice_get (replicate m p ++ ys) j ≡ slice_get ys i
get-past zero i j p ys e = ap (slice_get ys) (omega (arith, e))
get-past (suc m) i zero p ys e = absurd (omega (arith, e))
get-past (suc m) i (suc j) p ys e = get-past m i j p ys (omega (arith, e))

-- what holds of a place and of all rows after it holds of all rows
from-either : (m t p i : ℕ) (ys : List ℕ) → ((j : ℕ) → slice_get ys j ≡ Some t → p ≤ t) → slice_get (replicate m p ++ ys) i ≡ Some t → p ≤ t
from-either m t p i ys rest e = by_test (nat_lt i m) refl
  where
    by_test : (b : Bool) → nat_lt i m ≡ b → p ≤ t
    by_test true f = omega (arith, same_Some t p (sym e ∙ get-replicated m i p ys (grind (arith, nat_tests))))
    by_test false f =
        let le : m ≤ i = grind (arith, nat_tests) in
        rest (i - m) (sym (get-past m (i - m) i p ys (omega (arith, le))) ∙ e)

-- no row begins before the first of the places
begins-from : (screen : Screen) (begun place : ℕ) (at : ℕ × ℕ) (cs : List (List ℕ)) (i t : ℕ) → slice_get (begins begun (cells screen place at cs)) i ≡ Some t → place ≤ t
begins-from screen begun place at [] i t e =
    from-either ((wrapped screen.columns at).0 + 1 - begun) t place i [] (λ j h. absurd (subst (λ o. MatchOption o (Unit {0}) (λ _. ⊥)) h tt)) e
begins-from screen begun place at (cluster ∷ more) i t e =
    let b = max begun ((stands screen at cluster).0 + 1) in
    from-either ((stands screen at cluster).0 + 1 - begun) t place i (begins b (cells screen (place + length cluster) (after screen at cluster) more))
    (λ j h. omega (arith, begins-from screen b (place + length cluster) (after screen at cluster) more j t h)) e

-- of places of which the rows from `begun` on begin at `starts`: a place stands in a row that begins at it or before it, if that
-- is one of them, and the next row begins after it
abbrev Stands : ℕ → List ℕ → ℕ → ℕ → Type 0
Stands begun starts row p =
    (begun ≤ row → (s : ℕ) × (slice_get starts (row - begun) ≡ Some s) × (s ≤ p))
    × ((t : ℕ) → slice_get starts (row + 1 - begun) ≡ Some t → p < t)

first-row : (begun row place : ℕ) (ys : List ℕ) → begun ≤ row + 1 → ((t : ℕ) → slice_get ys 0 ≡ Some t → place < t)
    → Stands begun (replicate (row + 1 - begun) place ++ ys) row place
first-row begun row place ys le next = (
  λ h. (place, get-replicated (row + 1 - begun) (row - begun) place ys (omega (arith, h)), omega arith),
  λ t e. next t (sym (get-past (row + 1 - begun) 0 (row + 1 - begun) place ys (omega arith)) ∙ e),
)

later-row : (begun first row place p : ℕ) (ys : List ℕ) → begun ≤ first + 1 → first ≤ row → place ≤ p
    → Stands (max begun (first + 1)) ys row p → Stands begun (replicate (first + 1 - begun) place ++ ys) row p
later-row begun first row place p ys le from before rest = (
  λ h. by_test h (nat_lt first row) refl,
  λ t e. rest.1 t (sym (get-past (first + 1 - begun) (row + 1 - max begun (first + 1)) (row + 1 - begun) place ys (grind (arith, nat_tests))) ∙ e),
)
  where
    by_test : begun ≤ row → (b : Bool) → nat_lt first row ≡ b
        → (s : ℕ) × (slice_get (replicate (first + 1 - begun) place ++ ys) (row - begun) ≡ Some s) × (s ≤ p)
    by_test h true f =
        let r = rest.0 (grind (arith, nat_tests)) in
        (r.0, get-past (first + 1 - begun) (row - max begun (first + 1)) (row - begun) place ys (grind (arith, nat_tests)) ∙ r.1, r.2)
    by_test h false f = (place, get-replicated (first + 1 - begun) (row - begun) place ys (grind (arith, nat_tests)), before)

rows-grow : (a b : ℕ × ℕ) → is_within a b ≡ true → a.0 ≤ b.0
rows-grow a b e = grind (arith, nat_tests)

-- a place is not before the first, its row not above that one's, and it stands in its row
abbrev Placed : ℕ → List ℕ → ℕ → ℕ × ℕ → ℕ × (ℕ × ℕ) → Type 0
Placed begun starts place at x = (place ≤ x.0) × (at.0 ≤ x.1.0) × Stands begun starts x.1.0 x.0

pub in-row : (screen : Screen) (begun place : ℕ) (at : ℕ × ℕ) (cs : List (List ℕ)) (k : ℕ) (x : ℕ × (ℕ × ℕ)) → All (λ (cluster : List ℕ). 0 < length cluster) cs
    → begun ≤ (first_cell screen at cs).0 + 1 → slice_get (cells screen place at cs) k ≡ Some x
    → Placed begun (begins begun (cells screen place at cs)) place (first_cell screen at cs) x
in-row screen begun place at [] zero x some le e =
    let w = wrapped screen.columns at in
    subst (Placed begun (replicate (w.0 + 1 - begun) place ++ []) place w) (same_Some (place, w) x e)
    (omega arith, omega arith, first-row begun w.0 place [] le (λ t h. absurd (subst (λ o. MatchOption o (Unit {0}) (λ _. ⊥)) h tt)))
in-row screen begun place at [] (suc k) x some le e = absurd (subst (λ o. MatchOption o (Unit {0}) (λ _. ⊥)) e tt)
in-row screen begun place at (cluster ∷ more) zero x some le e =
    let w = stands screen at cluster in
    let has : 0 < length cluster = All-head (λ (c : List ℕ). 0 < length c) cluster more some in
    let ys = begins (max begun (w.0 + 1)) (cells screen (place + length cluster) (after screen at cluster) more) in
    subst (Placed begun (replicate (w.0 + 1 - begun) place ++ ys) place w) (same_Some (place, w) x e) (
      omega arith,
      omega arith,
      first-row begun w.0 place ys le
          (λ t h. omega (arith, has, begins-from screen (max begun (w.0 + 1)) (place + length cluster) (after screen at cluster) more 0 t h)),
    )
in-row screen begun place at (cluster ∷ more) (suc k) x some le e =
    let w = stands screen at cluster in
    let next = first_cell screen (after screen at cluster) more in
    let grows : w.0 ≤ next.0 = rows-grow w next (within-after screen at cluster more) in
    let r = in-row screen (max begun (w.0 + 1)) (place + length cluster) (after screen at cluster) more k x
    (All-tail (λ (c : List ℕ). 0 < length c) cluster more some) (grind (arith, nat_tests)) e in
    let from : w.0 ≤ x.1.0 = omega (arith, grows, r.1) in
    let before : place ≤ x.0 = omega (arith, r.0) in
    (before, from, later-row begun w.0 x.1.0 place x.0 (begins (max begun (w.0 + 1)) (cells screen (place + length cluster) (after screen at cluster) more)) le from before r.2)

-- ---- what is written
pub fill-one : {A : Type 0} (b : ℕ) (p : A) (xs out : List A) → b < length out → filled_after (suc b) xs (slice_set out b p) ≡ filled_after b (p ∷ xs) out
fill-one b p xs [] lt = absurd (omega (arith, lt))
fill-one zero p xs (x ∷ out) lt = refl
fill-one (suc b) p xs (x ∷ out) lt = ap (λ l. x ∷ l) (fill-one b p xs out (omega arith))

pub fill-none : {A : Type 0} (b : ℕ) (p : A) (xs out : List A) → length out ≤ b → filled_after (suc b) xs out ≡ filled_after b (p ∷ xs) out
fill-none zero p xs [] le = refl
fill-none (suc b) p xs [] le = refl
fill-none zero p xs (x ∷ out) le = absurd (omega (arith, le))
fill-none (suc b) p xs (x ∷ out) le = ap (λ l. x ∷ l) (fill-none b p xs out (omega arith))

fill-all : {A : Type 0} (out : List A) → take (length out) out ≡ out
fill-all [] = refl
fill-all (x ∷ out) = ap (λ l. x ∷ l) (fill-all out)

pub fill-nothing : {A : Type 0} (b : ℕ) (out : List A) → filled_after b [] out ≡ out
fill-nothing zero out = fill-all out
fill-nothing (suc b) [] = refl
fill-nothing (suc b) (x ∷ out) = ap (λ l. x ∷ l) (fill-nothing b out)

pub fill-past_all : {A : Type 0} (n : ℕ) (xs out : List A) → length out ≤ n → filled_after n xs out ≡ out
fill-past_all zero xs [] le = refl
fill-past_all (suc n) xs [] le = refl
fill-past_all zero xs (x ∷ out) le = absurd (omega (arith, le))
fill-past_all (suc n) xs (x ∷ out) le = ap (λ l. x ∷ l) (fill-past_all n xs out (omega arith))

-- one row more begins: its place is written if there is space for it
next-row : (end begun p : ℕ) → begun < end → replicate (end - begun) p ≡ p ∷ replicate (end - (begun + 1)) p
next-row end begun p lt =
    let one : end - begun ≡ suc (end - (begun + 1)) = omega (arith, lt) in
    ap (λ n. replicate n p) one

pub filled-one : (end begun p : ℕ) (more out : List ℕ) → begun < end → begun < length out
    → filled_after (begun + 1) (replicate (end - (begun + 1)) p ++ more) (slice_set out begun p) ≡ filled_after begun (replicate (end - begun) p ++ more) out
filled-one end begun p more out le lt =
    let xs = replicate (end - (begun + 1)) p ++ more in
    let next : begun + 1 ≡ suc begun = omega arith in
    ap (λ n. filled_after n xs (slice_set out begun p)) next ∙ fill-one begun p xs out lt ∙ sym (ap (λ l. filled_after begun (l ++ more) out) (next-row end begun p le))

pub filled-past : (end begun p : ℕ) (more out : List ℕ) → begun < end → length out ≤ begun
    → filled_after (begun + 1) (replicate (end - (begun + 1)) p ++ more) out ≡ filled_after begun (replicate (end - begun) p ++ more) out
filled-past end begun p more out le lt =
    let xs = replicate (end - (begun + 1)) p ++ more in
    let next : begun + 1 ≡ suc begun = omega arith in
    ap (λ n. filled_after n xs out) next ∙ fill-none begun p xs out lt ∙ sym (ap (λ l. filled_after begun (l ++ more) out) (next-row end begun p le))

-- how many rows have begun after those of one place and of the places after it
pub count-on : (begun row p : ℕ) (ys : List ℕ) → begun + length (replicate (row + 1 - begun) p ++ ys) ≡ max begun (row + 1) + length ys
count-on begun row p ys =
    let len = length-append (replicate (row + 1 - begun) p) ys in
    let one = length-replicate (row + 1 - begun) p in
    grind (arith, nat_tests, len, one)

-- where the clusters end: the cell of the place after them all
abbrev pub end_cell : Screen → ℕ × ℕ → List (List ℕ) → ℕ × ℕ
end_cell screen at [] = wrapped screen.columns at
end_cell screen at (cluster ∷ more) = end_cell screen (after screen at cluster) more

laid-end : (screen : Screen) (at : ℕ × ℕ) (cs : List (List ℕ)) → laid screen (bytes_in cs) at cs ≡ end_cell screen at cs
laid-end screen at [] = refl
laid-end screen at (cluster ∷ more) =
    let split = length-append cluster (concat more) in
    let there : nat_le (length cluster) (bytes_in (cluster ∷ more)) ≡ true = grind (arith, nat_tests, split) in
    let left : bytes_in (cluster ∷ more) - length cluster ≡ bytes_in more = omega (arith, split) in
    ap (λ b. cond b (laid screen (bytes_in (cluster ∷ more) - length cluster) (after screen at cluster) more) (stands screen at cluster)) there
    ∙ ap (λ n. laid screen n (after screen at cluster) more) left ∙ laid-end screen (after screen at cluster) more

pub cell-end : (screen : Screen) (text : List ℕ) → IsUtf8 text → cell screen text (length text) ≡ end_cell screen (0, screen.prompt) (clusters text)
cell-end screen text u =
    ap (λ n. laid screen n (0, screen.prompt) (clusters text)) (sym (bytes_in-clusters text u)) ∙ laid-end screen (0, screen.prompt) (clusters text)

-- a cell after another is not in a row above it
pub rows-past : (a b : ℕ × ℕ) → is_within a b ≡ false → b.0 ≤ a.0
rows-past a b e = grind (arith, nat_tests)
