-- Which texts of a ring fit a bound, and the ring of its newest texts alone.
use Rattle.rl_base.proofs.Common.{◌≡◌, ℕ, ◌+◌, ◌-◌, ◌<◌, ◌≤◌, Bool, true, false, cond, min, List, [], ◌∷◌, ◌++◌, length, take, drop, get_or, reverse, None, refl, sym, ap, ◌∙◌, inl, inr, arith, slice_get, drop_more, drop_all, take_at, take-append-drop, reverse-append, reverse-reverse, length-reverse, length-append, length-take, length-drop, length-map, map-append, ap₂, ◌^◌, ◌==◌, cond-true, cond-false, nat_le, nat_lt, Gathering, texts, Ring, IsRing, Other, back_from, newest_first, fitting, left_with, with_newest, cut_to, resized, within_bytes, Action, NewKill, cases_lt, eq-eqb, unwrap_or, zero, suc, sum_by-append, sum_by-cons, take_all, take_more, length-take-le, Some, option_map, FitsLast, Kill, Yank, behind, slice_get-get_or, get_or_append_left, get_or-append-add, get_or-reverse, get_or-take, get_or-drop, leb-true, leb-false, ltb-true, eqb-true, eqb-false, sum_by, put_at, join_at, Mode, slice_set}
use Rattle.std.proofs.lemmas.List.{drop-map, get_or_past, take-map, take_min}
use Rattle.std.proofs.lemmas.List.Sums.{sum_by-set}
use Rattle.std.proofs.lemmas.Option.{unwrap_or-slice_get}
use Rattle.rl_base.specs.KillRing.{joined}
use Rattle.rl_base.specs.declared.kill_ring.Mode.TheVariants.{Append, Prepend}
use Rattle.rl_base.proofs.Ring.RingLemmas.{join-is}
use Rattle.std.proofs.lemmas.Bool.{le-leb, lt-leb}

length-back : (slots : List (List ℕ)) (i : ℕ) → length (back_from i slots) ≡ length slots
length-back slots i = simp (length-append, length-reverse, length-take, length-drop) (omega arith)

-- ---- how many bytes there are
pub sum-reverse : (ts : List (List ℕ)) → sum_by length (reverse ts) ≡ sum_by length ts
sum-reverse [] = refl
sum-reverse (t ∷ ts) =
    ap (sum_by length) (reverse-append (t ∷ []) ts) ∙ sum_by-append length (reverse ts) (t ∷ [])
    ∙ omega (arith, sum-reverse ts, sum_by-cons length t ts, sum_by-cons length t [])

sum-back : (slots : List (List ℕ)) (i : ℕ) → sum_by length (back_from i slots) ≡ sum_by length slots
sum-back slots i =
    let cut = ap (sum_by length) (take-append-drop (i + 1) slots) in
    omega (
      arith,
      cut,
      sum_by-append length (take (i + 1) slots) (drop (i + 1) slots),
      sum_by-append length (reverse (take (i + 1) slots)) (reverse (drop (i + 1) slots)),
      sum-reverse (take (i + 1) slots),
      sum-reverse (drop (i + 1) slots),
    )

-- one more text, and one less
sum-take : (ts : List (List ℕ)) (k : ℕ) → k < length ts → sum_by length (take (k + 1) ts) ≡ sum_by length (take k ts) + length (get_or ts k [])
sum-take ts k at =
    omega (arith, ap (sum_by length) (take_more ts k [] at), sum_by-append length (take k ts) (get_or ts k [] ∷ []), sum_by-cons length (get_or ts k []) [])

sum-drop : (ts : List (List ℕ)) (k : ℕ) → k < length ts → sum_by length (drop k ts) ≡ length (get_or ts k []) + sum_by length (drop (k + 1) ts)
sum-drop ts k at = ap (sum_by length) (drop_more ts k [] at) ∙ sum_by-cons length (get_or ts k []) (drop (k + 1) ts)

pub one-counted : (ts : List (List ℕ)) (k : ℕ) → length (get_or ts k []) ≤ sum_by length ts
one-counted [] k = omega arith
one-counted (t ∷ ts) zero = omega (arith, sum_by-cons length t ts)
one-counted (t ∷ ts) (suc k) = omega (arith, one-counted ts k, sum_by-cons length t ts)

pub put-counted : (slots : List (List ℕ)) (i : ℕ) (text : List ℕ) → i ≤ length slots
    → sum_by length (put_at i text slots) + length (get_or slots i []) ≡ sum_by length slots + length text
put-counted slots i text h = through (i == length slots) refl
  where
    through : (b : Bool) → (i == length slots) ≡ b
        → sum_by length (cond b (slots ++ text ∷ []) (slice_set slots i text)) + length (get_or slots i []) ≡ sum_by length slots + length text
    through true e =
        let past : get_or slots i [] ≡ [] = get_or_past slots i [] (omega (arith, eqb-true i (length slots) e)) in
        omega (arith, ap length past, sum_by-append length slots (text ∷ []))
    through false e = sum_by-set length slots i text [] (omega (arith, eqb-false i (length slots) e))

pub join-counted : (slots : List (List ℕ)) (i : ℕ) (mode : Mode) (text : List ℕ) → i < length slots
    → sum_by length (join_at i mode text slots) ≡ sum_by length slots + length text
join-counted slots i mode text at =
    let len = length-joined mode (get_or slots i []) text in
    omega (arith, len, ap (sum_by length) (join-is slots i mode text), sum_by-set length slots i (joined mode (get_or slots i []) text) [] at)
  where
    length-joined : (mode : Mode) (old text : List ℕ) → length (joined mode old text) ≡ length old + length text
    length-joined Append old text = length-append old text
    length-joined Prepend old text = omega (arith, length-append text old)

-- the same of what the code counts
pub put-counts : (now slots : List (List ℕ)) (i : ℕ) (text : List ℕ) (bytes others at : ℕ) → now ≡ put_at i text slots → i ≤ length slots
    → at ≡ length (get_or slots i []) → others ≡ sum_by length slots - at → bytes ≡ others + length text → bytes ≡ sum_by length now
put-counts now slots i text bytes others at is h len rest sum =
    omega (arith, ap (sum_by length) is, put-counted slots i text h, one-counted slots i, len, rest, sum)

pub join-counts : (now slots : List (List ℕ)) (i : ℕ) (mode : Mode) (text : List ℕ) (bytes all : ℕ) → now ≡ join_at i mode text slots → i < length slots
    → all ≡ sum_by length slots → bytes ≡ all + length text → bytes ≡ sum_by length now
join-counts now slots i mode text bytes all is at were sum = omega (arith, ap (sum_by length) is, join-counted slots i mode text at, were, sum)

pub ruleset counting = (put-counts, join-counts, one-counted)

-- one text in two lists, or none
pub got-same : {A : Type 0} (xs ys : List A) (i j : ℕ) (d : A) → slice_get xs i ≡ slice_get ys j → get_or xs i d ≡ get_or ys j d
got-same xs ys i j d is = sym (unwrap_or-slice_get xs i d) ∙ ap (λ o. unwrap_or o d) is ∙ unwrap_or-slice_get ys j d

pub got-none : {A : Type 0} (xs : List A) (i : ℕ) (d : A) → slice_get xs i ≡ None → get_or xs i d ≡ d
got-none xs i d none = sym (unwrap_or-slice_get xs i d) ∙ ap (λ o. unwrap_or o d) none

-- a text put after all
pub put-end : (slots : List (List ℕ)) (i : ℕ) (text : List ℕ) → i ≡ length slots → put_at i text slots ≡ slots ++ text ∷ []
put-end slots i text end = cond-true (i == length slots) _ _ (eq-eqb i (length slots) end)

-- the bytes of the first so many from the newest back, and of the others
pub kept-and-gone : (xs : List Gathering) (newest kept all : ℕ) → all ≡ sum_by length (texts xs)
    → all ≡ sum_by length (take kept (back_from newest (texts xs))) + sum_by length (drop kept (back_from newest (texts xs)))
kept-and-gone xs newest kept all is =
    let ts = back_from newest (texts xs) in
    omega (arith, is, sum-back (texts xs) newest, ap (sum_by length) (take-append-drop kept ts), sum_by-append length (take kept ts) (drop kept ts))

-- ---- as many as fit
fits-whole : (room : ℕ) (ts : List (List ℕ)) → sum_by length ts ≤ room → fitting room ts ≡ ts
fits-whole room [] le = refl
fits-whole room (t ∷ ts) le =
    let sum = sum_by-cons length t ts in
    cond-true (nat_le (length t) room) _ _ (le-leb (length t) room (omega arith)) ∙ ap (λ l. t ∷ l) (fits-whole (room - length t) ts (omega arith))

fits-not_last : (room : ℕ) (ts : List (List ℕ)) (t : List ℕ) → room < sum_by length (ts ++ t ∷ []) → fitting room (ts ++ t ∷ []) ≡ fitting room ts
fits-not_last room [] t lt = cond-false (nat_le (length t) room) _ _ (lt-leb (length t) room (omega arith))
fits-not_last room (x ∷ xs) t lt =
    let sum = sum_by-cons length x (xs ++ t ∷ []) in
    elim (cases_lt room (length x)) [
      | inl over ↦ cond-false (nat_le (length x) room) _ _ (lt-leb (length x) room over) ∙ sym (cond-false (nat_le (length x) room) _ _ (lt-leb (length x) room over))
      | inr under ↦ ap (λ l. cond (nat_le (length x) room) (x ∷ l) []) (fits-not_last (room - length x) xs t (omega arith))
    ]

-- the first so many of the texts from the newest back, how many bytes they have, and that no more fit
pub record Kept (room : ℕ) (ts : List (List ℕ)) (kept left : ℕ) : Type 0 where
  pub within : kept ≤ length ts
  pub sum : left ≡ sum_by length (take kept ts)
  pub fit : fitting room ts ≡ fitting room (take kept ts)

pub kept-all : (room : ℕ) (xs : List Gathering) (newest kept left : ℕ) → kept ≡ length xs → left ≡ sum_by length (texts xs) → Kept room (back_from newest (texts xs)) kept left
kept-all room xs newest kept left all sum =
    let ts = back_from newest (texts xs) in
    let len : length ts ≡ length xs = length-back (texts xs) newest ∙ length-map xs (λ (g : Gathering). g.text) in
    let whole : take kept ts ≡ ts = take_all kept ts (omega arith) in
    record { within = omega arith; sum = sum ∙ sym (ap (sum_by length) whole ∙ sum-back (texts xs) newest); fit = ap (fitting room) (sym whole) }

pub kept-some : (room : ℕ) (ts : List (List ℕ)) (kept left : ℕ) → Kept room ts kept left → room < left → 0 < kept
kept-some room ts kept left h over = elim (cases_lt 0 kept) [
  | inl some ↦ some
  | inr none ↦ (let zero_kept : kept ≡ 0 = omega arith in absurd (omega (arith, h.sum ∙ ap (λ k. sum_by length (take k ts)) zero_kept)))
]

pub kept-less : (room : ℕ) (ts : List (List ℕ)) (all kept left : ℕ) → Kept room ts all left → room < left → kept + 1 ≡ all
    → (length (get_or ts kept []) ≤ left) × Kept room ts kept (left - length (get_or ts kept []))
kept-less room ts all kept left h over one =
    let at : kept < length ts = omega (arith, h.within) in
    let whole = h.sum ∙ ap (λ k. sum_by length (take k ts)) (sym one) in
    let sum = whole ∙ sum-take ts kept at in
    let more = take_more ts kept [] at in (
      omega arith,
      record {
        within = omega arith;
        sum = omega arith;
        fit = h.fit ∙ ap (λ k. fitting room (take k ts)) (sym one) ∙ ap (fitting room) more
            ∙ fits-not_last room (take kept ts) (get_or ts kept []) (omega (arith, whole, ap (sum_by length) more));
      },
    )

pub kept-fits : (room : ℕ) (ts : List (List ℕ)) (kept left : ℕ) → Kept room ts kept left → left ≤ room → kept ≡ length (fitting room ts)
kept-fits room ts kept left h le =
    sym (ap length (h.fit ∙ fits-whole room (take kept ts) (omega (arith, h.sum))) ∙ length-take-le kept ts h.within)

-- ---- the slots that stay
-- the last of a list are the first of it turned round
last-of : {A : Type 0} (xs : List A) (k : ℕ) → drop (length xs - k) xs ≡ reverse (take k (reverse xs))
last-of xs k =
    let gone = take (length xs - k) xs in
    let rest = drop (length xs - k) xs in
    let count : min k (length (reverse xs)) ≡ length (reverse rest) = simp (length-reverse, length-drop) (omega arith) in
    let turned : reverse xs ≡ reverse rest ++ reverse gone = ap reverse (sym (take-append-drop (length xs - k) xs)) ∙ reverse-append gone rest in
    sym (ap reverse (sym (take_min k (reverse xs)) ∙ ap₂ take count turned ∙ take_at (reverse rest) (reverse gone) (length (reverse rest)) refl)
    ∙ reverse-reverse rest)

-- past the end of a list there is nothing to drop
drop_min : {A : Type 0} (n : ℕ) (xs : List A) → drop (min n (length xs)) xs ≡ drop n xs
drop_min n xs = elim (cases_lt (length xs) n) [
  | inl past ↦ drop_all (min n (length xs)) xs (omega arith) ∙ sym (drop_all n xs (omega arith))
  | inr within ↦ (let is : min n (length xs) ≡ n = omega arith in ap (λ k. drop k xs) is)
]

turned-newest : (xs : List Gathering) (n kept : ℕ)
    → texts (drop (length xs - kept) (drop (n + 1) xs ++ take (n + 1) xs)) ≡ reverse (take kept (back_from n (texts xs)))
turned-newest xs n kept =
    let m = n + 1 in
    let ts = texts xs in
    let w = drop m ts ++ take m ts in
    let len : length w ≡ length xs = simp (length-append, length-drop, length-take, length-map) (omega arith) in
    sym (drop-map (λ (g : Gathering). g.text) (length xs - kept) (drop m xs ++ take m xs))
    ∙ ap (drop (length xs - kept)) (map-append (λ (g : Gathering). g.text) (drop m xs) (take m xs)
    ∙ ap₂ (λ (a b : List (List ℕ)). a ++ b) (sym (drop-map (λ (g : Gathering). g.text) m xs)) (sym (take-map (λ (g : Gathering). g.text) m xs)))
    ∙ ap (λ k. drop (k - kept) w) (sym len) ∙ last-of w kept ∙ ap (λ l. reverse (take kept l)) (reverse-append (drop m ts) (take m ts))

pub kept_newest : (xs rotated ys : List Gathering) (n kept turn gone : ℕ) → turn ≡ min (n + 1) (length xs) → rotated ≡ drop turn xs ++ take turn xs
    → gone ≡ length xs - kept → ys ≡ drop gone rotated → texts ys ≡ reverse (take kept (back_from n (texts xs)))
kept_newest xs rotated ys n kept turn gone by turned count rest =
    ap texts (rest ∙ ap₂ (λ (k : ℕ) (l : List Gathering). drop k l) count (turned ∙ ap (λ k. drop k xs ++ take k xs) by
    ∙ ap₂ (λ (a b : List Gathering). a ++ b) (drop_min (n + 1) xs) (take_min (n + 1) xs))) ∙ turned-newest xs n kept

-- ---- what a ring keeps by it
-- what holds of the texts that are left, if the current one is among them and if not
left-keeps : (P : Ring → Type 0) (ts : List (List ℕ)) (back : ℕ) (r : Ring)
    → (back < length ts → P (record r { slots = reverse ts; index = length ts - 1 - back; newest = length ts - 1 }))
    → P (record r { slots = reverse ts; index = length ts - 1; newest = length ts - 1; last = Other })
    → P (left_with ts back r)
left-keeps P ts back r stays goes = by (nat_lt back (length ts)) refl
  where
    by : (b : Bool) → nat_lt back (length ts) ≡ b
        → P (cond b (record r { slots = reverse ts; index = length ts - 1 - back; newest = length ts - 1 })
        (record r { slots = reverse ts; index = length ts - 1; newest = length ts - 1; last = Other }))
    by true at = stays (ltb-true back (length ts) at)
    by false at = goes

module _ (P : Ring → Type 0) (r : Ring) (left : (kept : ℕ) → P (with_newest kept r)) (stays : P r) where
  cut_to-keeps : (bytes : ℕ) → P (cut_to bytes r)
  cut_to-keeps bytes = by (length (fitting bytes (newest_first r)) == length r.slots)
    where
      by : (b : Bool) → P (cond b r (with_newest (length (fitting bytes (newest_first r))) r))
      by true = stays
      by false = left _

  within_bytes-keeps : (bytes : ℕ) → P (within_bytes bytes r)
  within_bytes-keeps bytes = by (nat_le (2 ^ 64 - 1) bytes)
    where
      by : (b : Bool) → P (cond b r (cut_to bytes r))
      by true = stays
      by false = cut_to-keeps bytes

resized-keeps : (P : Ring → Type 0) (size : ℕ) (r : Ring) → P (record (with_newest size r) { size = size }) → P r → P (resized size r)
resized-keeps P size r left stays = by (size == r.size)
  where
    by : (b : Bool) → P (cond b r (record (with_newest size r) { size = size }))
    by true = stays
    by false = left

pub within-unbounded : (r : Ring) → within_bytes (2 ^ 64 - 1) r ≡ r
within-unbounded r = cond-true (nat_le (2 ^ 64 - 1) (2 ^ 64 - 1)) r (cut_to (2 ^ 64 - 1) r) (le-leb (2 ^ 64 - 1) (2 ^ 64 - 1) (omega arith))

-- if all fit, nothing goes
pub within-whole : (bytes : ℕ) (r : Ring) → sum_by length r.slots ≤ bytes → within_bytes bytes r ≡ r
within-whole bytes r le =
    let all = fits-whole bytes (newest_first r) (omega (arith, sum-back r.slots r.newest)) in
    let whole : length (fitting bytes (newest_first r)) ≡ length r.slots = ap length all ∙ length-back r.slots r.newest in
    let stays : cut_to bytes r ≡ r = cond-true (length (fitting bytes (newest_first r)) == length r.slots) _ _ (eq-eqb _ _ whole) in
    by (nat_le (2 ^ 64 - 1) bytes) stays
  where
    by : (b : Bool) → cut_to bytes r ≡ r → cond b r (cut_to bytes r) ≡ r
    by true stays = refl
    by false stays = stays

-- texts that fit the size are a ring, the newest last
IsRing-texts : (size : ℕ) (rule : NewKill) (ts : List (List ℕ)) (index : ℕ) (last : Action) (killing : Bool) → length ts ≤ size → index ≤ length ts - 1
    → FitsLast last size index (reverse ts)
    → IsRing (record { size = size; rule = rule; slots = reverse ts; index = index; newest = length ts - 1; last = last; killing = killing })
IsRing-texts size rule ts index last killing fit at fits =
    let len = length-reverse ts in
    record { within = omega (arith, len, fit); at_slot = omega (arith, len, at); newest_at_slot = omega (arith, len); last_fits = fits }

-- the current text stands as many before the newest as `behind` says
behind-is : (newest index : ℕ) (slots : List (List ℕ)) → index < length slots → newest < length slots
    → get_or (back_from newest slots) (behind newest index (length slots)) [] ≡ get_or slots index []
behind-is newest index slots at new = by (nat_le index newest) refl
  where
    front : List (List ℕ)
    front = take (newest + 1) slots

    back : List (List ℕ)
    back = drop (newest + 1) slots

    long : length (reverse front) ≡ newest + 1
    long = omega (arith, length-reverse front, length-take (newest + 1) slots)

    by : (b : Bool) → nat_le index newest ≡ b
        → get_or (reverse front ++ reverse back) (cond b (newest - index) (newest + (length slots - index))) [] ≡ get_or slots index []
    by true e =
        let le = leb-true index newest e in
        let place : length front - 1 - (newest - index) ≡ index = omega (arith, long, length-reverse front) in
        get_or_append_left (reverse front) (reverse back) [] (newest - index) (omega (arith, long))
        ∙ get_or-reverse front (newest - index) [] (omega (arith, long, length-reverse front))
        ∙ ap (λ i. get_or front i []) place ∙ get_or-take (newest + 1) slots index [] (omega arith)
    by false e =
        let gt = leb-false index newest e in
        let k = length slots - index - 1 in
        let size = length-drop (newest + 1) slots in
        let place : newest + (length slots - index) ≡ length (reverse front) + k = omega (arith, long) in
        let last : newest + 1 + (length back - 1 - k) ≡ index = omega (arith, size) in
        ap (λ i. get_or (reverse front ++ reverse back) i []) place ∙ get_or-append-add (reverse front) (reverse back) k []
        ∙ get_or-reverse back k [] (omega (arith, size)) ∙ get_or-drop (newest + 1) slots (length back - 1 - k) [] ∙ ap (λ i. get_or slots i []) last

-- so it stays the current one, if that many are left
current-stays : (kept : ℕ) (r : Ring) (ts : List (List ℕ)) (back : ℕ) → ts ≡ take kept (newest_first r) → back ≡ behind r.newest r.index (length r.slots) → IsRing r
    → back < length ts → slice_get (reverse ts) (length ts - 1 - back) ≡ slice_get r.slots r.index
current-stays kept r ts back is by h at =
    let whole = length-back r.slots r.newest in
    let some : 0 < length r.slots = omega (arith, at, ap length is, length-take kept (newest_first r), whole) in
    let there = h.at_slot in
    let new = h.newest_at_slot in
    let place : length ts - 1 - (length ts - 1 - back) ≡ back = omega (arith, at) in
    slice_get-get_or (reverse ts) (length ts - 1 - back) [] (omega (arith, length-reverse ts, at))
    ∙ ap (λ (t : List ℕ). Some t) (get_or-reverse ts (length ts - 1 - back) [] (omega (arith, at)) ∙ ap (λ i. get_or ts i []) place
    ∙ ap (λ l. get_or l back []) is ∙ get_or-take kept (newest_first r) back [] (omega (arith, at, ap length is, length-take kept (newest_first r)))
    ∙ ap (λ i. get_or (newest_first r) i []) by ∙ behind-is r.newest r.index r.slots (omega arith) (omega arith))
    ∙ sym (slice_get-get_or r.slots r.index [] (omega arith))

-- and is that of what was done last
stays-FitsLast : (last : Action) (size left index at : ℕ) (slots ts : List (List ℕ)) → at < length ts → slice_get ts at ≡ slice_get slots index
    → FitsLast last size index slots → FitsLast last left at ts
stays-FitsLast Kill size left index at slots ts there same fits = λ _. there
stays-FitsLast (Yank bytes) size left index at slots ts there same fits = ap (option_map length) same ∙ fits
stays-FitsLast Other size left index at slots ts there same fits = tt

module _ (kept size : ℕ) (r : Ring) (fit : length (take kept (newest_first r)) ≤ size) (h : IsRing r) where
  abbrev left_back : ℕ
  left_back = behind r.newest r.index (length r.slots)

  -- the texts that are left, in a ring of another size
  ring-stays : (ts : List (List ℕ)) → ts ≡ take kept (newest_first r) → left_back < length ts
      → IsRing (record { size = size; rule = r.rule; slots = reverse ts; index = length ts - 1 - left_back; newest = length ts - 1; last = r.last; killing = r.killing })
  ring-stays ts is at =
      let there : length ts - 1 - left_back < length (reverse ts) = omega (arith, length-reverse ts, at) in
      IsRing-texts size r.rule ts (length ts - 1 - left_back) r.last r.killing (rw is fit) (omega arith)
      (stays-FitsLast r.last r.size size r.index (length ts - 1 - left_back) r.slots (reverse ts) there (current-stays kept r ts left_back is refl h at) h.last_fits)

  ring-goes : (ts : List (List ℕ)) → ts ≡ take kept (newest_first r)
      → IsRing (record { size = size; rule = r.rule; slots = reverse ts; index = length ts - 1; newest = length ts - 1; last = Other; killing = r.killing })
  ring-goes ts is = IsRing-texts size r.rule ts (length ts - 1) Other r.killing (rw is fit) (omega arith) tt

pub IsRing-newest : (kept : ℕ) (r : Ring) → IsRing r → IsRing (with_newest kept r)
IsRing-newest kept r h =
    let ts = take kept (newest_first r) in
    let fit : length ts ≤ r.size = omega (arith, length-take kept (newest_first r), length-back r.slots r.newest, h.within) in
    left-keeps IsRing ts (left_back kept r.size r fit h) r (ring-stays kept r.size r fit h ts refl) (ring-goes kept r.size r fit h ts refl)

pub IsRing-resized : (size : ℕ) (r : Ring) → IsRing r → IsRing (resized size r)
IsRing-resized size r h =
    let ts = take size (newest_first r) in
    let fit : length ts ≤ size = omega (arith, length-take size (newest_first r)) in
    resized-keeps IsRing size r
    (left-keeps (λ k. IsRing (record k { size = size })) ts (left_back size size r fit h) r (ring-stays size size r fit h ts refl) (ring-goes size size r fit h ts refl)) h

pub IsRing-within : (bytes : ℕ) (r : Ring) → IsRing r → IsRing (within_bytes bytes r)
IsRing-within bytes r h = within_bytes-keeps IsRing r (λ kept. IsRing-newest kept r h) h bytes

killing-newest : (kept : ℕ) (r : Ring) → (with_newest kept r).killing ≡ r.killing
killing-newest kept r = left-keeps (λ k. k.killing ≡ r.killing) (take kept (newest_first r)) _ r (λ _. refl) refl

pub killing-within : (bytes : ℕ) (r : Ring) → (within_bytes bytes r).killing ≡ r.killing
killing-within bytes r = within_bytes-keeps (λ k. k.killing ≡ r.killing) r (λ kept. killing-newest kept r) refl bytes

pub killing-resized : (size : ℕ) (r : Ring) → (resized size r).killing ≡ r.killing
killing-resized size r = resized-keeps (λ k. k.killing ≡ r.killing) size r (killing-newest size r) refl
