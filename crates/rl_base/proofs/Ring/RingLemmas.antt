-- What a kill makes of a ring.
use Rattle.rl_base.proofs.Common.{◌≡◌, ℕ, ◌+◌, ◌<◌, ◌≤◌, zero, suc, Bool, true, false, cond, List, [], ◌∷◌, ◌++◌, length, set, get_or, Result, Ok, Err, OnOk, IfErr, Some, option_map, refl, ap, ◌∙◌, ◌⊎◌, inl, inr, arith, length-append, eqb-true, eqb-false, length-set, max, ◌==◌, slice_get, slice_set, Mode, Refusal, NoMemory, Gathering, IsPackedAt, texts, Ring, raised, next_index, put_at, join_at, in_new_slot, IsRing, map-set, sym, set-get_or, slice_get-get_or, get_or-map, get_or-set_same, length-map, set_past, cond-false, ne_eqb, goes_after, new_index, NewKill, AfterCurrent, AfterNewest}
use Rattle.rl_base.specs.KillRing.{joined}

-- joining writes the joined text over the slot; where there is none, it leaves all as they are
pub join-is : (slots : List (List ℕ)) (i : ℕ) (mode : Mode) (text : List ℕ)
    → join_at i mode text slots ≡ slice_set slots i (joined mode (get_or slots i []) text)
join-is [] i mode text = refl
join-is (s ∷ ss) zero mode text = refl
join-is (s ∷ ss) (suc i) mode text = ap (λ l. s ∷ l) (join-is ss i mode text)

-- and as many
pub length-join : (slots : List (List ℕ)) (i : ℕ) (mode : Mode) (text : List ℕ) → length (join_at i mode text slots) ≡ length slots
length-join slots i mode text = ap length (join-is slots i mode text) ∙ length-set slots i _

-- where the next slot goes
pub record Next (size index : ℕ) (slots : List (List ℕ)) (i : ℕ) : Type 0 where
  pub after : i ≤ length slots
  pub below : i < size
  pub turns : (index + 1 ≡ size) × (i ≡ 0) ⊎ (index + 1 < size) × (i ≡ raised index slots)

pub next_index-is : (size index : ℕ) (slots : List (List ℕ)) → 0 < size → length slots ≤ size → index < max 1 (length slots)
    → Next size index slots (next_index size index slots)
next_index-is size index slots some within at = through (index + 1 == size) refl
  where
    rises : (ss : List (List ℕ)) → index < max 1 (length ss) → index + 1 < size → (raised index ss ≤ length ss) × (raised index ss < size)
    rises [] h k = (omega arith, omega arith)
    rises (s ∷ ss) h k = (omega arith, k)

    le : index + 1 ≤ size
    le = omega arith

    through : (b : Bool) → (index + 1 == size) ≡ b → Next size index slots (cond b 0 (raised index slots))
    through true e = record { after = omega arith; below = some; turns = inl (eqb-true (index + 1) size e, refl) }
    through false e =
        let n = eqb-false (index + 1) size e in
        let less : index + 1 < size = omega arith in
        let two = rises slots at less in record { after = two.0; below = two.1; turns = inr (less, refl) }

-- the next slot is within the size, and is there then
pub length-put : (slots : List (List ℕ)) (i size : ℕ) (text : List ℕ) → i ≤ length slots → i < size → length slots ≤ size
    → (length (put_at i text slots) ≤ size) × (i < length (put_at i text slots))
length-put slots i size text h k le = through (i == length slots) refl
  where
    through : (b : Bool) → (i == length slots) ≡ b
        → (length (cond b (slots ++ text ∷ []) (slice_set slots i text)) ≤ size) × (i < length (cond b (slots ++ text ∷ []) (slice_set slots i text)))
    through true e =
        let n = eqb-true i (length slots) e in
        let l : length (slots ++ text ∷ []) ≡ length slots + 1 = length-append slots (text ∷ []) in (omega arith, omega arith)
    through false e =
        let n = eqb-false i (length slots) e in
        let l : length (slice_set slots i text) ≡ length slots = length-set slots i text in (omega arith, omega arith)

-- where a slot is there, the text is put over it
pub put-over : (slots : List (List ℕ)) (i : ℕ) (text : List ℕ) → i < length slots → put_at i text slots ≡ slice_set slots i text
put-over slots i text h = cond-false (i == length slots) _ _ (ne_eqb i (length slots) (λ e. absurd (omega arith)))

-- also in a ring
pub new_index-is : (r : Ring) → 0 < r.size → IsRing r → Next r.size (goes_after r.rule r.index r.newest) r.slots (new_index r)
new_index-is r some h = next_index-is r.size (goes_after r.rule r.index r.newest) r.slots some h.within (at r.rule)
  where
    at : (rule : NewKill) → goes_after rule r.index r.newest < max 1 (length r.slots)
    at AfterCurrent = h.at_slot
    at AfterNewest = h.newest_at_slot

-- a ring stays one by a kill into a new slot
pub IsRing-in_new_slot : (text : List ℕ) (r : Ring) → 0 < r.size → IsRing r → IsRing (in_new_slot text r)
IsRing-in_new_slot text r some h =
    let n = new_index-is r some h in
    let l = length-put r.slots (new_index r) r.size text n.after n.below h.within in
    record { within = l.0; at_slot = omega arith; newest_at_slot = omega arith; last_fits = λ _. l.1 }

-- ---- in the code's list
-- another slot is written over one
texts-set : (xs : List Gathering) (i : ℕ) (y : Gathering) → texts (set xs i y) ≡ slice_set (texts xs) i y.text
texts-set xs i y = map-set (λ (g : Gathering). g.text) xs i y

-- the text of a slot that was read
text-at : (xs : List Gathering) (i : ℕ) (x : Gathering) → i < length xs → x ≡ get_or xs i x → x.text ≡ get_or (texts xs) i []
text-at xs i x l is = ap (λ (g : Gathering). g.text) is ∙ sym (get_or-map (λ (g : Gathering). g.text) xs i x [] l)

join-set : (xs : List Gathering) (i : ℕ) (mode : Mode) (text : List ℕ) (x y : Gathering) → i < length xs → x ≡ get_or xs i x
    → y.text ≡ joined mode x.text text → texts (set xs i y) ≡ join_at i mode text (texts xs)
join-set xs i mode text x y l is e =
    texts-set xs i y ∙ ap (slice_set (texts xs) i) (e ∙ ap (λ t. joined mode t text) (text-at xs i x l is)) ∙ sym (join-is (texts xs) i mode text)

pub put-set : (xs : List Gathering) (i : ℕ) (y : Gathering) (text : List ℕ) → i < length xs → y.text ≡ text → texts (set xs i y) ≡ put_at i text (texts xs)
put-set xs i y text l e =
    texts-set xs i y ∙ ap (slice_set (texts xs) i) e ∙ sym (put-over (texts xs) i text (rw (length-map xs (λ (g : Gathering). g.text)) l))

pub same-set : (xs : List Gathering) (i : ℕ) (x y : Gathering) → i < length xs → x ≡ get_or xs i x → y.text ≡ x.text → texts (set xs i y) ≡ texts xs
same-set xs i x y l is e = texts-set xs i y ∙ ap (slice_set (texts xs) i) (e ∙ text-at xs i x l is) ∙ set-get_or (texts xs) i []

-- the same of what the call on the slot answers
pub joins-ok : (xs : List Gathering) (i : ℕ) (mode : Mode) (text : List ℕ) (x y : Gathering) (result : Result (Unit {0}) Refusal) → i < length xs → x ≡ get_or xs i x
    → OnOk result (y.text ≡ joined mode x.text text) → OnOk result (texts (set xs i y) ≡ join_at i mode text (texts xs))
joins-ok xs i mode text x y (Ok a) l is e = join-set xs i mode text x y l is e
joins-ok xs i mode text x y (Err r) l is e = tt

pub joins-err : (xs : List Gathering) (i : ℕ) (text : List ℕ) (x y : Gathering) (result : Result (Unit {0}) Refusal) → i < length xs → x ≡ get_or xs i x
    → IfErr result (λ r. (r ≡ NoMemory) × (y.text ≡ x.text) × (0 < length text))
    → IfErr result (λ r. (r ≡ NoMemory) × (texts (set xs i y) ≡ texts xs) × (0 < length text))
joins-err xs i text x y (Ok a) l is e = tt
joins-err xs i text x y (Err r) l is e = (e.0, same-set xs i x y l is e.1, e.2)

pub packed-set : (xs : List Gathering) (i : ℕ) (y : Gathering) → i < length xs → y.blanks ≡ 0 → IsPackedAt i (set xs i y)
packed-set xs i y l e =
    rw (slice_get-get_or (set xs i y) i y (rw (length-set xs i y) l), get_or-set_same xs i y y l) e

pub size-at : (xs : List Gathering) (i : ℕ) (x : Gathering) → i < length xs → x ≡ get_or xs i x → Some (length x.text) ≡ option_map length (slice_get (texts xs) i)
size-at xs i x l is =
    ap (λ t. Some (length t)) (text-at xs i x l is)
    ∙ sym (ap (option_map length) (slice_get-get_or (texts xs) i [] (rw (length-map xs (λ (g : Gathering). g.text)) l)))

-- where there is no such slot
pub join-past : (slots : List (List ℕ)) (i : ℕ) (mode : Mode) (text : List ℕ) → (i < length slots → ⊥) → slots ≡ join_at i mode text slots
join-past slots i mode text h = sym (join-is slots i mode text ∙ set_past slots i _ (omega arith))

-- what is written over a slot, or joined to it
pub ruleset written = (length-join, put-set, joins-ok)

-- what packing a slot leaves
pub ruleset packing = (same-set, packed-set, size-at)
