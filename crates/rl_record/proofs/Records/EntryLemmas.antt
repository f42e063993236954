-- Entries in the list of the code: counting them, and closing groups.
use Rattle.rl_record.proofs.Common.{Begin, Bool, Change, Changed, End, Entry, IsMatched, IsSome, List, None, Option, Some, [], adds_end, ap, append-nil, arith, common_steps, cond, deep, drop, drop_all, end_one, end_times, ends_in_begin, ends_in_end, entry_of, false, get_or, inl, inr, is_begin, is_change, is_end, last_of, length, level, map, map-append, max, min, ne_eqb, not, open_size, option_map, option_to_list, redo_of, refl, reverse, same_Some, slice_get, suc, sym, take, take-map, true, zero, ℕ, ◌++◌, ◌+◌, ◌-◌, ◌<◌, ◌||◌, ◌∙◌, ◌∷◌, ◌≡◌, ◌≤◌, ◌⊎◌}
use Rattle.rl_line.proofs.Changes.InverseLemmas.{value_of}
use Rattle.rl_record.proofs.Records.CountLemmas.{last-counted, redo-counted, size-counted}
use Rattle.rl_record.proofs.Records.Counts.{ahead_len, back_len, size_back}
use Rattle.rl_record.proofs.Records.LastLemmas.{end_one-cases, end_one-past, ends-past, read-last}
use Rattle.rl_record.proofs.Records.UnitLemmas.{last_of-change, redo_of-change}
use Rattle.rl_record.specs.Units.{units_in_group}
use Rattle.std.proofs.lemmas.Bool.{eq-eqb}

-- the entries before a place, the last first, with one entry more
back-read : (xs : List Change) (m : ℕ) (z x : Change) → m < length xs → get_or xs m z ≡ x
    → reverse (map entry_of (take (m + 1) xs)) ≡ entry_of x ∷ reverse (map entry_of (take m xs))
back-read xs m z x lt e = grind (arith, common_steps)

read-before : (xs : List Change) (at : ℕ) (z x : Change) → 0 < at → at ≤ length xs → get_or xs (at - 1) z ≡ x
    → reverse (map entry_of (take at xs)) ≡ entry_of x ∷ reverse (map entry_of (take (at - 1) xs))
read-before xs at z x pos le e =
    let m : (at - 1) + 1 ≡ at = omega arith in
    let lt : at - 1 < length xs = omega arith in
    ap (λ n. reverse (map entry_of (take n xs))) (sym m) ∙ back-read xs (at - 1) z x lt e

-- one entry less to go
pub count-step : (xs : List Change) (at d k d' k' total : ℕ) (z x : Change) → 0 < at → at ≤ length xs → get_or xs (at - 1) z ≡ x
    → ((rs : List Entry) → back_len d k (entry_of x ∷ rs) ≡ suc (back_len d' k' rs))
    → (length xs - at) + back_len d k (reverse (map entry_of (take at xs))) ≡ total
    → (length xs - (at - 1)) + back_len d' k' (reverse (map entry_of (take (at - 1) xs))) ≡ total
count-step xs at d k d' k' total z x pos le e step h =
    let one : back_len d k (reverse (map entry_of (take at xs))) ≡ suc (back_len d' k' (reverse (map entry_of (take (at - 1) xs)))) =
    ap (back_len d k) (read-before xs at z x pos le e) ∙ step (reverse (map entry_of (take (at - 1) xs))) in
    omega arith

pub step-end0 : (d k : ℕ) (rs : List Entry) → d ≡ 0 → 0 < k → back_len d k (End ∷ rs) ≡ suc (back_len (d + 1) (k - 1) rs)
step-end0 zero zero rs e lt = absurd (omega arith)
step-end0 zero (suc k) rs e lt = let same : k ≡ suc k - 1 = omega arith in ap (λ n. suc (back_len 1 n rs)) same
step-end0 (suc d) k rs e lt = absurd (omega arith)

pub step-end : (d k : ℕ) (rs : List Entry) → 0 < d → back_len d k (End ∷ rs) ≡ suc (back_len (d + 1) k rs)
step-end zero k rs lt = absurd (omega arith)
step-end (suc d) k rs lt = let same : suc (suc d) ≡ suc d + 1 = omega arith in ap (λ n. suc (back_len n k rs)) same

pub step-begin : (d k : ℕ) (rs : List Entry) → 0 < d → back_len d k (Begin ∷ rs) ≡ suc (back_len (d - 1) k rs)
step-begin zero k rs lt = absurd (omega arith)
step-begin (suc d) k rs lt = let same : d ≡ suc d - 1 = omega arith in ap (λ n. suc (back_len n k rs)) same

-- nothing is left to count
pub count-end : (xs : List Change) (at d k n : ℕ) → IsMatched (map entry_of xs) → (at ≡ 0) ⊎ ((d ≡ 0) × (k ≡ 0))
    → (length xs - at) + back_len d k (reverse (map entry_of (take at xs))) ≡ back_len 0 (max n 1) (reverse (map entry_of xs))
    → length xs - at ≡ length (last_of n (map entry_of xs))
count-end xs at d k n m done h = grind (arith, last-counted)

-- ---- counting the units of a group
-- n units are counted, d groups are entered from their End, and the first `at` entries are left
pub record SizeAt (xs : List Change) (at d n : ℕ) : Type 0 where
  pub within : d + at ≤ length xs
  pub few : n + at ≤ length xs
  pub counted : n + size_back d (reverse (map entry_of (take at xs))) ≡ size_back 0 (reverse (map entry_of xs))

size-step : (xs : List Change) (at d d' n n' : ℕ) (z x : Change) → 0 < at → at ≤ length xs → get_or xs (at - 1) z ≡ x
    → ((rs : List Entry) → n + size_back d (entry_of x ∷ rs) ≡ n' + size_back d' rs) → d' + (at - 1) ≤ length xs → n' + (at - 1) ≤ length xs
    → SizeAt xs at d n → SizeAt xs (at - 1) d' n'
size-step xs at d d' n n' z x pos le e step within few s = record {
  within = within;
  few = few;
  counted = sym (step (reverse (map entry_of (take (at - 1) xs)))) ∙ ap (λ rs. n + size_back d rs) (sym (read-before xs at z x pos le e)) ∙ s.counted;
}

one_more : (n m : ℕ) → n + suc m ≡ (n + 1) + m
one_more n m = omega arith

pub size-begin : (xs : List Change) (at d n : ℕ) (z x : Change) → 0 < at → 0 < d → get_or xs (at - 1) z ≡ x → entry_of x ≡ Begin → SizeAt xs at d n → SizeAt xs (at - 1) (d - 1) n
size-begin xs at zero n z x pos deep e b s = absurd (omega (arith, deep))
size-begin xs at (suc d) n z x pos deep e b s =
    let same : d ≡ suc d - 1 = omega arith in
    size-step xs at (suc d) (suc d - 1) n n z x pos (omega (arith, s.within)) e
    (λ rs. ap (λ k. n + size_back (suc d) (k ∷ rs)) b ∙ ap (λ k. n + size_back k rs) same) (omega (arith, s.within)) (omega (arith, s.few)) s

pub size-found : (xs : List Change) (at d n : ℕ) (z x : Change) → 0 < at → d ≡ 0 → get_or xs (at - 1) z ≡ x → entry_of x ≡ Begin → IsMatched (map entry_of xs) → SizeAt xs at d n
    → n + 1 ≡ open_size (map entry_of xs)
size-found xs at zero n z x pos flat e b m s =
    ap (λ k. n + size_back 0 (k ∷ reverse (map entry_of (take (at - 1) xs)))) (sym b) ∙ ap (λ rs. n + size_back 0 rs) (sym (read-before xs at z x pos (omega (arith, s.within)) e))
    ∙ s.counted ∙ size-counted (map entry_of xs) m
size-found xs at (suc d) n z x pos flat e b m s = absurd (omega (arith, flat))

pub size-end0 : (xs : List Change) (at d n : ℕ) (z x : Change) → 0 < at → d ≡ 0 → get_or xs (at - 1) z ≡ x → entry_of x ≡ End → SizeAt xs at d n → SizeAt xs (at - 1) (d + 1) (n + 1)
size-end0 xs at zero n z x pos flat e b s =
    size-step xs at 0 1 n (n + 1) z x pos (omega (arith, s.within)) e
    (λ rs. ap (λ k. n + size_back 0 (k ∷ rs)) b ∙ one_more n (size_back 1 rs)) (omega (arith, s.within)) (omega (arith, s.few, pos)) s
size-end0 xs at (suc d) n z x pos flat e b s = absurd (omega (arith, flat))

pub size-end : (xs : List Change) (at d n : ℕ) (z x : Change) → 0 < at → 0 < d → get_or xs (at - 1) z ≡ x → entry_of x ≡ End → SizeAt xs at d n → SizeAt xs (at - 1) (d + 1) n
size-end xs at zero n z x pos deep e b s = absurd (omega (arith, deep))
size-end xs at (suc d) n z x pos deep e b s =
    let same : suc (suc d) ≡ suc d + 1 = omega arith in
    size-step xs at (suc d) (suc d + 1) n n z x pos (omega (arith, s.within)) e
    (λ rs. ap (λ k. n + size_back (suc d) (k ∷ rs)) b ∙ ap (λ k. n + size_back k rs) same) (omega (arith, s.within, pos)) (omega (arith, s.few)) s

pub size-change0 : (xs : List Change) (at d n : ℕ) (z x : Change) → 0 < at → d ≡ 0 → get_or xs (at - 1) z ≡ x → is_change (entry_of x) ≡ true → SizeAt xs at d n → SizeAt xs (at - 1) d (n + 1)
size-change0 xs at zero n z x pos flat e b s =
    size-step xs at 0 0 n (n + 1) z x pos (omega (arith, s.within)) e (λ rs. passed (entry_of x) rs b) (omega (arith, s.within)) (omega (arith, s.few, pos)) s
  where
    passed : (k : Entry) (rs : List Entry) → is_change k ≡ true → n + size_back 0 (k ∷ rs) ≡ (n + 1) + size_back 0 rs
    passed (Changed kind swap) rs b = one_more n (size_back 0 rs)
    passed other rs b = cc
size-change0 xs at (suc d) n z x pos flat e b s = absurd (omega (arith, flat))

pub size-change : (xs : List Change) (at d n : ℕ) (z x : Change) → 0 < at → 0 < d → get_or xs (at - 1) z ≡ x → is_change (entry_of x) ≡ true → SizeAt xs at d n → SizeAt xs (at - 1) d n
size-change xs at zero n z x pos deep e b s = absurd (omega (arith, deep))
size-change xs at (suc d) n z x pos deep e b s =
    size-step xs at (suc d) (suc d) n n z x pos (omega (arith, s.within)) e (λ rs. passed (entry_of x) rs b) (omega (arith, s.within)) (omega (arith, s.few)) s
  where
    passed : (k : Entry) (rs : List Entry) → is_change k ≡ true → n + size_back (suc d) (k ∷ rs) ≡ n + size_back (suc d) rs
    passed (Changed kind swap) rs b = refl
    passed other rs b = cc

pub size-done : (xs : List Change) (at d n : ℕ) → at ≡ 0 → IsMatched (map entry_of xs) → SizeAt xs at d n → n ≡ open_size (map entry_of xs)
size-done xs at d n none m s = grind (arith, size-counted)

-- no more units are counted than there are
pub size-past : (most : ℕ) (xs : List Change) (at d n : ℕ) → most ≤ n → IsMatched (map entry_of xs) → SizeAt xs at d n → min most n ≡ min most (open_size (map entry_of xs))
size-past most xs at d n past m s = omega (arith, past, s.counted, size-counted (map entry_of xs) m)

pub ruleset sizes = (size-begin, size-change, size-change0, size-end, size-end0)

-- ---- counting what is open
pub deep-append : (d : ℕ) (xs ys : List Entry) → deep d (xs ++ ys) ≡ deep (deep d xs) ys
deep-append d [] ys = refl
deep-append d (Begin ∷ xs) ys = deep-append (suc d) xs ys
deep-append d (End ∷ xs) ys = deep-append (d - 1) xs ys
deep-append d (Changed k c ∷ xs) ys = deep-append d xs ys

-- with the entry at i
pub deep-next : (xs : List Change) (i n : ℕ) (x : Change) → i < length xs → x ≡ get_or xs i x → n ≡ deep 0 (map entry_of (take i xs))
    → deep 0 (map entry_of (take (i + 1) xs)) ≡ deep n (entry_of x ∷ [])
deep-next xs i n x lt is e = grind (arith, common_steps, deep-append)

-- ---- counting ahead
-- what is left to count where d groups are open: nothing where none is
abbrev pub rest_len : ℕ → List Entry → ℕ
rest_len zero rs = 0
rest_len (suc d) rs = ahead_len (suc d) rs

-- the first `at` entries were counted: so many groups are open after them, and the whole unit has as many entries as these and what is left of it
pub record Counted (xs : List Change) (at d : ℕ) : Type 0 where
  pub within : at ≤ length xs
  pub small : d ≤ at
  pub unit : at + ahead_len d (map entry_of (drop at xs)) ≡ ahead_len 0 (map entry_of xs)

next-unit : (xs : List Change) (at d : ℕ) (x : Change) → at < length xs → x ≡ get_or xs at x → Counted xs at d
    → (at + 1) + rest_len (deep d (entry_of x ∷ [])) (map entry_of (drop (at + 1) xs)) ≡ ahead_len 0 (map entry_of xs)
next-unit xs at d x lt is c = grind (arith, common_steps)

-- one entry more, where groups are open after it
pub Counted-next : (xs : List Change) (at d n : ℕ) (x : Change) → at < length xs → x ≡ get_or xs at x → Counted xs at d
    → n ≡ deep d (entry_of x ∷ []) → n ≤ d + 1 → 0 < n → Counted xs (at + 1) n
Counted-next xs at d zero x lt is c e small some = absurd (omega arith)
Counted-next xs at d (suc n) x lt is c e small some = record {
  within = omega arith;
  small = omega (arith, c.small);
  unit = ap (λ k. (at + 1) + rest_len k (map entry_of (drop (at + 1) xs))) e ∙ next-unit xs at d x lt is c;
}

-- the unit ends where no group is open after an entry, or where no entry is left
pub Counted-end : (xs : List Change) (at d : ℕ) (x : Change) → IsMatched (map entry_of xs) → at < length xs → x ≡ get_or xs at x → Counted xs at d
    → 0 ≡ deep d (entry_of x ∷ []) → at + 1 ≡ length (redo_of (map entry_of xs))
Counted-end xs at d x m lt is c e = grind (arith, common_steps, redo-counted)

pub Counted-all : (xs : List Change) (at d : ℕ) → length xs ≤ at → IsMatched (map entry_of xs) → Counted xs at d → at ≡ length (redo_of (map entry_of xs))
Counted-all xs at d past m c = grind (arith, drop_all, redo-counted)

-- ---- closing groups
abbrev pub begins : Option Change → Bool
begins None = false
begins (Some x) = is_begin (entry_of x)

two : (n : ℕ) → suc (suc n) - 1 ≡ suc (suc n - 1)
two n = omega arith

-- the last entry tells
pub ends-at : (xs : List Change) (o : Option Change) → o ≡ slice_get xs (length xs - 1) → ends_in_begin (map entry_of xs) ≡ begins o
ends-at [] o e = ap begins (sym e)
ends-at (x ∷ []) o e = ap begins (sym e)
ends-at (x ∷ (y ∷ ys)) o e = ends-at (y ∷ ys) o (e ∙ ap (slice_get (x ∷ (y ∷ ys))) (two (length ys)))

abbrev pub ends : Option Change → Bool
ends None = false
ends (Some x) = is_end (entry_of x)

pub ends-at_end : (xs : List Change) (o : Option Change) → o ≡ slice_get xs (length xs - 1) → ends_in_end (map entry_of xs) ≡ ends o
ends-at_end [] o e = ap ends (sym e)
ends-at_end (x ∷ []) o e = ap ends (sym e)
ends-at_end (x ∷ (y ∷ ys)) o e = ends-at_end (y ∷ ys) o (e ∙ ap (slice_get (x ∷ (y ∷ ys))) (two (length ys)))

-- a Begin at the end goes
takes_begin-off : (xs : List Entry) (e : Entry) → is_begin e ≡ true → xs ≡ end_one (xs ++ e ∷ [])
takes_begin-off xs e h = sym (end_one-past xs e [] ∙ ap (λ b. xs ++ cond b [] (e ∷ (End ∷ []))) h ∙ append-nil xs)

-- after another entry comes an End
adds_end-after : (xs : List Entry) → ends_in_begin xs ≡ false → xs ++ End ∷ [] ≡ end_one xs
adds_end-after xs h =
    elim (end_one-cases xs) [
      | inl c ↦ let begins = ap ends_in_begin c.list_is ∙ ends-past c.front Begin [] in cc
      | inr c ↦ sym c.after_is
    ]

-- a Begin that is popped, and an End that is pushed
pub end_one-popped : (xs ys : List Change) (o : Option Change) → xs ≡ ys ++ option_to_list o → (0 < length xs → IsSome o) → ends_in_begin (map entry_of xs) ≡ true
    → map entry_of ys ≡ end_one (map entry_of xs)
end_one-popped [] ys o e some h = cc
end_one-popped (x ∷ xs) ys o e some h =
    let y = value_of o (some (omega arith)) in
    let last : map entry_of (x ∷ xs) ≡ map entry_of ys ++ entry_of y.0 ∷ [] = ap (map entry_of) (e ∙ ap (λ p. ys ++ option_to_list p) y.1) ∙ map-append entry_of ys (y.0 ∷ []) in
    takes_begin-off (map entry_of ys) (entry_of y.0) (sym (ends-past (map entry_of ys) (entry_of y.0) []) ∙ ap ends_in_begin (sym last) ∙ h) ∙ ap end_one (sym last)

pub end_one-pushed : (xs ys : List Change) (x : Change) → ys ≡ xs ++ x ∷ [] → entry_of x ≡ End → ends_in_begin (map entry_of xs) ≡ false → map entry_of ys ≡ end_one (map entry_of xs)
end_one-pushed xs ys x e end h = grind (arith, map-append, adds_end-after)

-- one group less to close
pub closes-next : (count i : ℕ) (es next all : List Entry) → i < count → next ≡ end_one es → end_times (count - i) es ≡ all → end_times (count - (i + 1)) next ≡ all
closes-next count i es next all lt e h =
    let k : suc (count - (i + 1)) ≡ count - i = omega arith in
    ap (end_times (count - (i + 1))) e ∙ ap (λ n. end_times n es) k ∙ h

-- where closing fewer groups adds an End, closing all does
pub adds-more : (count i : ℕ) (es next : List Entry) → i < count → next ≡ end_one es → adds_end (count - (i + 1)) next ≡ true → adds_end (count - i) es ≡ true
adds-more count i es next lt e h = grind arith

-- so does closing one that is not empty
pub adds-here : (n : ℕ) (es : List Entry) → 0 < n → ends_in_begin es ≡ false → adds_end n es ≡ true
adds-here zero es some h = absurd (omega (arith, some))
adds-here (suc n) es some h = ap (λ b. not b || adds_end n (end_one es)) h

-- a Begin before a place leaves one group less to close, and any other entry gets an End
pub adds-off : (xs : List Change) (m n : ℕ) (x : Change) → m < length xs → x ≡ get_or xs m x → 0 < n → is_begin (entry_of x) ≡ true
    → adds_end n (map entry_of (take (m + 1) xs)) ≡ adds_end (n - 1) (map entry_of (take m xs))
adds-off xs m zero x lt e some h = absurd (omega (arith, some))
adds-off xs m (suc n) x lt e some h =
    let k : suc n - 1 ≡ n = omega arith in
    let ys = map entry_of (take m xs) in
    let last = ends-past ys (entry_of x) [] ∙ h in
    ap (adds_end (suc n)) (read-last entry_of xs m x x lt (sym e)) ∙ ap (λ b. not b || adds_end n (end_one (ys ++ entry_of x ∷ []))) last
    ∙ ap (adds_end n) (sym (takes_begin-off ys (entry_of x) h)) ∙ ap (λ j. adds_end j ys) (sym k)

pub adds-before : (xs : List Change) (m n : ℕ) (x : Change) → m < length xs → x ≡ get_or xs m x → 0 < n → is_begin (entry_of x) ≡ false
    → adds_end n (map entry_of (take (m + 1) xs)) ≡ true
adds-before xs m n x lt e some h = grind (arith, common_steps, adds-here, ends-past)

-- ---- one change alone
-- the last entry of the list
pub last-split : (xs : List Change) (x : Change) → Some x ≡ slice_get xs (length xs - 1) → (front : List Change) × (xs ≡ front ++ x ∷ [])
last-split [] x e = cc
last-split (y ∷ []) x e = ([], ap (λ z. z ∷ []) (same_Some y x (sym e)))
last-split (y ∷ (z ∷ zs)) x e =
    let p = last-split (z ∷ zs) x (e ∙ ap (slice_get (y ∷ (z ∷ zs))) (two (length zs))) in (y ∷ p.0, ap (λ l. y ∷ l) p.1)

pub none-last : (xs : List Change) → None ≡ slice_get xs (length xs - 1) → xs ≡ []
none-last [] e = refl
none-last (y ∷ []) e = cc
none-last (y ∷ (z ∷ zs)) e =
    let none : z ∷ zs ≡ [] = none-last (z ∷ zs) (e ∙ ap (slice_get (y ∷ (z ∷ zs))) (two (length zs))) in cc

pub last-alone : (n : ℕ) (xs : List Change) (x : Change) → n ≤ 1 → Some x ≡ slice_get xs (length xs - 1) → is_change (entry_of x) ≡ true → last_of n (map entry_of xs) ≡ entry_of x ∷ []
last-alone n xs x few e is = grind (arith, common_steps, last-split, last_of-change)

pub next-alone : (xs : List Change) (x : Change) → Some x ≡ slice_get xs 0 → is_change (entry_of x) ≡ true → IsMatched (map entry_of xs) → redo_of (map entry_of xs) ≡ entry_of x ∷ []
next-alone [] x e is m = cc
next-alone (y ∷ ys) x e is m =
    let same : x ≡ y = same_Some x y e in
    redo_of-change (entry_of y) (map entry_of ys) (ap (λ z. is_change (entry_of z)) (sym same) ∙ is) m ∙ ap (λ z. entry_of z ∷ []) (sym same)

pub ruleset at_the_end = (Counted-all, Counted-end, Counted-next, adds-before, adds-here, adds-off, end_one-popped, end_one-pushed, ends-at, ends-at_end, last-alone, next-alone, take-map)

-- how many units an undo finds in its group, and no more than `most`
pub made-none : (most : ℕ) (es : List Entry) → level es ≡ 0 → None ≡ option_map (min most) (units_in_group es)
made-none most es flat = ap (λ b. option_map (min most) (cond (not b) (Some (open_size es - 1)) None)) (sym (eq-eqb (level es) 0 flat))

pub made-some : (most size n : ℕ) (es : List Entry) → 0 < level es → min (most + 1) size ≡ min (most + 1) (open_size es) → n ≡ min (size - 1) most → Some n ≡ option_map (min most) (units_in_group es)
made-some most size n es some same is =
    let made : n ≡ min most (open_size es - 1) = omega (arith, same, is) in
    ap (λ k. Some k) made ∙ ap (λ b. option_map (min most) (cond (not b) (Some (open_size es - 1)) None)) (sym (ne_eqb (level es) 0 (λ e. omega (arith, some, e))))
