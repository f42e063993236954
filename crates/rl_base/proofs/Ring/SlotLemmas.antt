-- The slots from the current one back, round the ring.
use Rattle.rl_base.proofs.Common.{◌≡◌, ℕ, ◌+◌, ◌-◌, ◌<◌, ◌≤◌, zero, suc, true, List, [], ◌∷◌, ◌++◌, length, take, drop, get_or, reverse, Option, None, Some, refl, ap, sym, ◌∙◌, ◌⊎◌, inl, inr, arith, cases_lt, append-nil, append_assoc, reverse-append, length-reverse, length-append, length-take, length-drop, length-set, take_at, take-take, take-set, take_all, drop_all, drop-set-lt, take_more, drop_more, get_or-set_same, get_or_append_left, slice_get-get_or, slice_get_past, cond-true, eq-eqb, max, ◌==◌, slice_get, slice_set, Mode, Ring, IsRing, Gathering, length-map, texts, subst, get_or-map, raised, next_index, put_at, back_from, join_at, grown, lent, yank, yank_size, FitsLast, Yank, option_map, slice_get_cases, yank_popped, popped_ring, turned, index_before, text_back}
use Rattle.rl_base.specs.KillRing.{joined}
use Rattle.rl_base.proofs.Ring.RingLemmas.{Next, join-is, next_index-is, put-over}

-- all slots but the one at i, from the one before it back
abbrev around : ℕ → List (List ℕ) → List (List ℕ)
around i slots = reverse (take i slots) ++ reverse (drop (i + 1) slots)

length-around : (slots : List (List ℕ)) (i : ℕ) → i < length slots → length (around i slots) + 1 ≡ length slots
length-around slots i at = simp (length-append, length-reverse, length-take, length-drop) (omega arith)

-- from i back, the slot at i is the first
back-at : (slots : List (List ℕ)) (i : ℕ) → i < length slots → back_from i slots ≡ get_or slots i [] ∷ around i slots
back-at slots i at =
    ap (λ l. reverse l ++ reverse (drop (i + 1) slots)) (take_more slots i [] at)
    ∙ ap (λ l. l ++ reverse (drop (i + 1) slots)) (reverse-append (take i slots) (get_or slots i [] ∷ []))

-- also where another text is put over it
back-set : (slots : List (List ℕ)) (i : ℕ) (text : List ℕ) → i < length slots → back_from i (slice_set slots i text) ≡ text ∷ around i slots
back-set slots i text at =
    back-at (slice_set slots i text) i (rw (length-set slots i text) at)
    ∙ rw (get_or-set_same slots i text [] at, take-set slots i text, drop-set-lt (i + 1) slots i text (omega arith)) refl

-- from the last slot back, it is all of them
back-all : (slots : List (List ℕ)) (i : ℕ) → length slots ≡ i + 1 → back_from i slots ≡ reverse slots
back-all slots i full = rw (take_all (i + 1) slots (omega arith), drop_all (i + 1) slots (omega arith)) (append-nil (reverse slots))

-- from the slot before i back, the slot at i is the last
before-at : (slots : List (List ℕ)) (i : ℕ) → i < length slots → back_from (index_before i slots) slots ≡ around i slots ++ get_or slots i [] ∷ []
before-at slots i at = before i at ∙ ap (λ l. reverse (take i slots) ++ reverse l) (drop_more slots i [] at)
    ∙ ap (λ l. reverse (take i slots) ++ l) (reverse-append (get_or slots i [] ∷ []) (drop (i + 1) slots))
    ∙ sym (append_assoc (reverse (take i slots)) (reverse (drop (i + 1) slots)) (get_or slots i [] ∷ []))
  where
    before : (i : ℕ) → i < length slots → back_from (index_before i slots) slots ≡ reverse (take i slots) ++ reverse (drop i slots)
    before zero at = back-all slots (length slots - 1) (omega arith)
    before (suc i) at = let next : i + 1 ≡ suc i = omega arith in ap (λ k. reverse (take k slots) ++ reverse (drop k slots)) next

-- ---- what is read
pub back-first : (slots : List (List ℕ)) (i : ℕ) → i < max 1 (length slots) → slice_get (back_from i slots) 0 ≡ slice_get slots i
back-first [] i h = let e : i ≡ 0 = omega arith in ap (λ k. slice_get (back_from k []) 0) e
back-first (s ∷ ss) i h =
    let at : i < length (s ∷ ss) = omega arith in
    ap (λ l. slice_get l 0) (back-at (s ∷ ss) i at) ∙ sym (slice_get-get_or (s ∷ ss) i [] at)

pub yank-back : (r : Ring) → IsRing r → text_back 0 r ≡ yank r
yank-back r h = back-first r.slots r.index h.at_slot

-- with the slot before as the current one, each is one less far back
turned-back : (slots : List (List ℕ)) (i back : ℕ) → i < length slots → back + 1 < length slots
    → slice_get (back_from (index_before i slots) slots) back ≡ slice_get (back_from i slots) (back + 1)
turned-back slots i back at below =
    let within : back < length (around i slots) = omega (arith, length-around slots i at) in
    let next : back + 1 ≡ suc back = omega arith in
    ap (λ l. slice_get l back) (before-at slots i at)
    ∙ slice_get-get_or (around i slots ++ get_or slots i [] ∷ []) back [] (omega (arith, length-append (around i slots) (get_or slots i [] ∷ [])))
    ∙ ap (λ (t : List ℕ). Some t) (get_or_append_left (around i slots) (get_or slots i [] ∷ []) [] back within)
    ∙ sym (ap (λ l. slice_get l (back + 1)) (back-at slots i at) ∙ ap (slice_get (get_or slots i [] ∷ around i slots)) next
    ∙ slice_get-get_or (around i slots) back [] within)

-- the slot before is one
pub before-below : (slots : List (List ℕ)) (i : ℕ) → i < max 1 (length slots) → index_before i slots < max 1 (length slots)
before-below slots zero at = omega arith
before-below slots (suc i) at = omega arith

-- after a yank there is one
yanked-within : (bytes index : ℕ) (slots : List (List ℕ)) → option_map length (slice_get slots index) ≡ Some bytes → index < length slots
yanked-within bytes index slots fits = elim (slice_get_cases slots index).1 [
  | inl some ↦ some.1
  | inr past ↦ absurd (cc (past.1, fits))
]

pub turned-lends : (bytes : ℕ) (r : Ring) → IsRing r → r.last ≡ Yank bytes → yank (turned r) ≡ Some (get_or r.slots (index_before r.index r.slots) [])
turned-lends bytes r h is =
    let at = yanked-within bytes r.index r.slots (subst (λ last. FitsLast last r.size r.index r.slots) is h.last_fits) in
    let below = before-below r.slots r.index h.at_slot in
    slice_get-get_or r.slots (index_before r.index r.slots) [] (omega arith)

lent-back : (o : Option (List ℕ)) (r : Ring) (back : ℕ) → text_back back (lent o r) ≡ text_back back r
lent-back None r back = refl
lent-back (Some text) r back = refl

-- each yank_pop goes one further back
pub yank_pop-back : (r : Ring) (size back : ℕ) → IsRing r → yank_size r ≡ Some size → back + 1 < length r.slots
    → text_back back (yank_popped r) ≡ text_back (back + 1) r
yank_pop-back r size back h e below =
    ap (λ o. text_back back (popped_ring o r)) e ∙ lent-back (yank (turned r)) (turned r) back
    ∙ turned-back r.slots r.index back (let at = h.at_slot in omega arith) below

-- there is none from their number on
pub back-none : (slots : List (List ℕ)) (i back : ℕ) → length slots ≤ back → slice_get (back_from i slots) back ≡ None
back-none slots i back past = slice_get_past (back_from i slots) back (simp (length-append, length-reverse, length-take, length-drop) (omega arith))

-- what `texts_back_are_yanked` says
pub ruleset going_back = (yank-back, yank_pop-back, back-none)

-- ---- what a kill makes of them
-- joining grows the newest group
pub back-join : (slots groups : List (List ℕ)) (i size : ℕ) (text : List ℕ) (mode : Mode) → i < length slots → 0 < size
    → back_from i slots ≡ take size groups → back_from i (join_at i mode text slots) ≡ take size (grown true text mode groups)
back-join slots groups i zero text mode at some h = absurd (omega arith)
back-join slots groups i (suc n) text mode at some h =
    ap (back_from i) (join-is slots i mode text) ∙ back-set slots i (joined mode (get_or slots i []) text) at
    ∙ grows groups (get_or slots i []) (around i slots) (sym (back-at slots i at) ∙ h)
  where
    grows : (gs : List (List ℕ)) (s : List ℕ) (rest : List (List ℕ)) → s ∷ rest ≡ take (suc n) gs → joined mode s text ∷ rest ≡ take (suc n) (grown true text mode gs)
    grows [] s rest e = cc
    grows (g ∷ gs) s rest e =
        let one : s ≡ g = cc in
        let two : rest ≡ take n gs = cc in
        ap (λ x. joined mode x text ∷ rest) one ∙ ap (λ l. joined mode g text ∷ l) two

-- what a new slot makes of the slots
pub record Puts (n index i : ℕ) (text : List ℕ) (slots : List (List ℕ)) : Type 0 where
  pub back_is : back_from i (put_at i text slots) ≡ text ∷ take n (back_from index slots)
  pub filling : length (put_at i text slots) < suc n → i + 1 ≡ max 1 (length (put_at i text slots))
  pub any : 0 < length (put_at i text slots)

-- while there is room
puts-after : (n index i : ℕ) (text : List ℕ) (slots : List (List ℕ)) → length slots ≤ n → index + 1 ≡ max 1 (length slots) → i ≡ length slots → Puts n index i text slots
puts-after n index i text slots room full at =
    let put : put_at i text slots ≡ slots ++ text ∷ [] = cond-true (i == length slots) _ _ (eq-eqb i (length slots) at) in
    let len : length (put_at i text slots) ≡ length slots + 1 = ap length put ∙ length-append slots (text ∷ []) in
    record {
      back_is = ap (back_from i) put ∙ back-all (slots ++ text ∷ []) i (omega (arith, ap length put)) ∙ reverse-append slots (text ∷ [])
          ∙ ap (λ l. text ∷ l) (sym (ap (take n) (whole slots full) ∙ take_all n (reverse slots) (rw (length-reverse slots) room)));
      filling = λ _. omega arith;
      any = omega arith;
    }
  where
    whole : (ss : List (List ℕ)) → index + 1 ≡ max 1 (length ss) → back_from index ss ≡ reverse ss
    whole [] e = let z : index ≡ 0 = omega arith in ap (λ k. back_from k []) z
    whole (s ∷ ss) e = back-all (s ∷ ss) index (omega arith)

-- over the slot after, where there is none
puts-over : (n index i : ℕ) (text : List ℕ) (slots : List (List ℕ)) → length slots ≡ suc n → index ≡ index_before i slots → i < suc n
    → Puts n index i text slots
puts-over n index i text slots full before below =
    let at : i < length slots = omega arith in
    let put = put-over slots i text at in
    let len : length (put_at i text slots) ≡ suc n = ap length put ∙ length-set slots i text ∙ full in
    record {
      back_is = ap (back_from i) put ∙ back-set slots i text at
          ∙ ap (λ l. text ∷ l) (sym (ap (λ k. take n (back_from k slots)) before ∙ ap (take n) (before-at slots i at)
          ∙ take_at (around i slots) (get_or slots i [] ∷ []) n (omega (arith, length-around slots i at))));
      filling = λ k. absurd (omega arith);
      any = omega arith;
    }

pub puts : (n index : ℕ) (text : List ℕ) (slots : List (List ℕ)) → length slots ≤ suc n → index < max 1 (length slots)
    → (length slots < suc n → index + 1 ≡ max 1 (length slots)) → Puts n index (next_index (suc n) index slots) text slots
puts n index text slots within at filling =
    let next = next_index-is (suc n) index slots (omega arith) within at in
    let i = next_index (suc n) index slots in
    elim (cases_lt n (length slots)) [
      | inr room ↦ puts-after n index i text slots room (filling (omega arith)) (after slots i room (filling (omega arith)) next)
      | inl over ↦ puts-over n index i text slots (omega arith) (before slots i (omega arith) next.turns) next.below
    ]
  where
    after : (ss : List (List ℕ)) (i : ℕ) → length ss ≤ n → index + 1 ≡ max 1 (length ss) → Next (suc n) index ss i → i ≡ length ss
    after [] i room e next = let b = next.after in omega arith
    after (s ∷ ss) i room e next = elim (next.turns) [ inl t ↦ let u = t.0 in absurd (omega arith) | inr t ↦ let u = t.1 in omega arith ]

    before : (ss : List (List ℕ)) (i : ℕ) → length ss ≡ suc n → ((index + 1 ≡ suc n) × (i ≡ 0)) ⊎ ((index + 1 < suc n) × (i ≡ raised index ss))
        → index ≡ index_before i ss
    before [] i full turns = absurd (omega arith)
    before (s ∷ ss) i full (inl t) = rw (t.1) (let last = t.0 in omega arith)
    before (s ∷ ss) i full (inr t) = let next : i ≡ suc index = (let one = t.1 in omega arith) in ap (λ k. index_before k (s ∷ ss)) (sym next)

pub take-grown : (groups : List (List ℕ)) (n : ℕ) (text : List ℕ) → text ∷ take n (take (suc n) groups) ≡ take (suc n) (text ∷ groups)
take-grown groups n text = ap (λ l. text ∷ l) (take-take n (suc n) groups (omega arith))

-- a slot that stands at i has its text at i of the texts
pub text_at : (slots : List Gathering) (i : ℕ) (slot : Gathering) → i < length slots → slot ≡ get_or slots i slot
    → (i < length (texts slots)) × (get_or (texts slots) i slot.text ≡ slot.text)
text_at slots i slot at is = (
  subst (λ n. i < n) (sym (length-map slots (λ (g : Gathering). g.text))) at,
  get_or-map (λ (g : Gathering). g.text) slots i slot slot.text at ∙ ap (λ (g : Gathering). g.text) (sym is),
)
