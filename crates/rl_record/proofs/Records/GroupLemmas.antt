-- Groups: where an End stands its group stands before it, and a group without a change leaves no trace.
use Rattle.rl_record.proofs.Common.{Begin, Begins, Bool, Changed, End, Entry, Event, Freshness, GroupAt, Hears, InGroup, IsMatched, IsSome, List, None, Open, Option, Record, Some, UndoUnit, Whole, [], add-zero, adds_end, after_in_group, ap, append-nil, append_assoc, arith, begun, close, common_steps, cond_both, drop, end_one, end_times, ended, ends_in_begin, ends_in_end, entries_after, entries_of, false, has_change, joined_in, length, level, mark, marks, not, opens, or-true, refl, reopened, subst, suc, sym, take, together, true, units, zero, ℕ, ◌++◌, ◌+◌, ◌-◌, ◌||◌, ◌∙◌, ◌∷◌, ◌≡◌}
use Rattle.rl_line.proofs.Changes.InverseLemmas.{has_change-append, value_of}
use Rattle.rl_record.proofs.Records.LastLemmas.{after-past, but_last, by_last, end_one-begin, ends-past, ends_in, joined_in-joined, skips}
use Rattle.rl_record.proofs.Records.MatchLemmas.{IsMatched-after, IsMatched-begin, level-is, marks-last}
use Rattle.rl_record.proofs.Records.RecordLemmas.{joins}
use Rattle.rl_record.proofs.Records.ToldLemmas.{last_told-begin, last_told-marks}
use Rattle.rl_record.proofs.Records.UnitLemmas.{AllGood, AllGood-left, IsMatched-front, IsMatched-together, Settles, cut_good, cut_more-append, flags_on, good_cuts, together-append, together-units, units-good}
use Rattle.rl_record.specs.Record.{record_step}

-- without a change no group holds one
quiet : List Bool → Bool
quiet [] = false
quiet (b ∷ bs) = b || quiet bs

stays_quiet : (es : List Entry) (fs gs : List Bool) → has_change es ≡ false → quiet fs ≡ false → marks es fs ≡ Some gs → quiet gs ≡ false
unfolding quiet
stays_quiet [] fs gs c q h = let e : fs ≡ gs = cc in ap quiet (sym e) ∙ q
stays_quiet (Begin ∷ es) fs gs c q h = stays_quiet es (false ∷ fs) gs c q h
stays_quiet (End ∷ es) [] gs c q h = cc
stays_quiet (End ∷ es) (false ∷ fs) gs c q h = cc
stays_quiet (End ∷ es) (true ∷ fs) gs c q h = cc
stays_quiet (Changed k s ∷ es) fs gs c q h = cc

-- entries by which an open group comes to hold a change
pub touching : (es : List Entry) → marks es (false ∷ []) ≡ Some (true ∷ []) → has_change es ≡ true
unfolding quiet
touching es flags = go (has_change es) refl
  where
    go : (b : Bool) → has_change es ≡ b → has_change es ≡ true
    go true e = e
    go false e = let q = stays_quiet es (false ∷ []) (true ∷ []) e refl flags in cc

pub Settles-change : (es : List Entry) → Settles es → has_change es ≡ true
Settles-change es s = touching es (s.flags (false ∷ []))

-- what a close makes: whole units stand between the Begin and the End
pub record Closes (us : List UndoUnit) (inner : List Entry) : Type 0 where
  pub within : List UndoUnit
  pub others : List UndoUnit
  pub units_are : us ≡ within ++ (Open ∷ others)
  pub whole : opens within ≡ 0
  pub is : close inner us ≡ Whole (Begin ∷ ((together within ++ inner) ++ (End ∷ []))) ∷ others

closes : (us : List UndoUnit) (inner : List Entry) (n : ℕ) → opens us ≡ suc n → Closes us inner
closes [] inner n h = absurd (omega arith)
closes (Open ∷ us) inner n h = record { within = []; others = us; units_are = refl; whole = refl; is = refl }
closes (Whole es ∷ us) inner n h =
    let r = closes us (es ++ inner) n h in
    record {
      within = Whole es ∷ r.within;
      others = r.others;
      units_are = ap (λ x. Whole es ∷ x) r.units_are;
      whole = r.whole;
      is = r.is ∙ ap (λ x. Whole (Begin ∷ (x ++ (End ∷ []))) ∷ r.others) (sym (append_assoc (together r.within) es inner));
    }

-- where an End may stand, a group with a change stands before it
pub group_at : (xs : List Entry) → IsMatched (xs ++ (End ∷ [])) → GroupAt xs
group_at xs h =
    let s = value_of (marks (xs ++ (End ∷ [])) []) h in
    let l = marks-last xs End s.0 s.1 in
    top l.0 s.0 l.1 l.2
  where
    good : AllGood (units xs)
    good = units-good xs (IsMatched-front xs (End ∷ []) h)

    changes : (within others : List UndoUnit) (fs : List Bool) → AllGood within → opens within ≡ 0 → flags_on (within ++ (Open ∷ others)) [] ≡ true ∷ fs → has_change (together within) ≡ true
    changes [] others fs g o e = cc
    changes (Open ∷ ws) others fs g o e = absurd (omega arith)
    changes (Whole es ∷ ws) others fs g o e =
        has_change-append (together ws) es ∙ ap (λ b. has_change (together ws) || b) (Settles-change es g.0) ∙ or-true (has_change (together ws))

    made : (fs : List Bool) → flags_on (units xs) [] ≡ true ∷ fs → Closes (units xs) [] → GroupAt xs
    made fs e r =
        let pieces = subst AllGood r.units_are good in
        let inside = AllGood-left r.within (Open ∷ r.others) pieces in
        record {
          before = together r.others;
          inner = together r.within;
          is = sym (together-units xs) ∙ ap together r.units_are ∙ together-append r.within (Open ∷ r.others) ∙ append_assoc (together r.others) (Begin ∷ []) (together r.within);
          matched = IsMatched-together r.within inside;
          closed = ap opens (good_cuts r.within [] inside ∙ append-nil r.within) ∙ r.whole;
          changed = changes r.within r.others fs inside r.whole (ap (λ us. flags_on us []) (sym r.units_are) ∙ e);
        }

    top : (fs gs : List Bool) → marks xs [] ≡ Some fs → mark End fs ≡ Some gs → GroupAt xs
    top [] gs k j = cc
    top (false ∷ fs) gs k j = cc
    top (true ∷ fs) gs k j =
        made fs (cut_good xs [] (true ∷ fs) tt k).1 (closes (units xs) [] (length fs) (level-is xs (true ∷ fs) k ∙ (omega arith)))

-- ---- a group without a change
-- n groups, opened one after another
begins : ℕ → List Entry
begins zero = []
begins (suc n) = Begin ∷ begins n

begins-last : (n : ℕ) → begins (suc n) ≡ begins n ++ Begin ∷ []
unfolding begins
begins-last zero = refl
begins-last (suc n) = ap (λ x. Begin ∷ x) (begins-last n)

all_begins : (es : List Entry) (fs : List Bool) → has_change es ≡ false → quiet fs ≡ false → IsSome (marks es fs) → es ≡ begins (length es)
unfolding begins quiet
all_begins [] fs c q h = refl
all_begins (Begin ∷ es) fs c q h = ap (λ x. Begin ∷ x) (all_begins es (false ∷ fs) c q h)
all_begins (End ∷ es) [] c q h = cc
all_begins (End ∷ es) (false ∷ fs) c q h = cc
all_begins (End ∷ es) (true ∷ fs) c q h = cc
all_begins (Changed k s ∷ es) fs c q h = cc

pub ends_in_begin-begin : (es : List Entry) → ends_in_begin (es ++ Begin ∷ []) ≡ true
ends_in_begin-begin es = ends-past es Begin []

-- groups opened after entries: how many are open, and what their ends do
record OpenAfter (es : List Entry) (n : ℕ) (all : List Entry) : Type 0 where
  level_is : level all ≡ n + level es
  ends : end_times n all ≡ es
  adds : adds_end n all ≡ false

open_after : (es : List Entry) (n : ℕ) → OpenAfter es n (es ++ begins n)
unfolding begins
open_after es zero = subst (OpenAfter es 0) (sym (append-nil es)) (record { level_is = omega arith; ends = refl; adds = refl })
open_after es (suc n) =
    let b = open_after es n in
    let last : es ++ begins (suc n) ≡ (es ++ begins n) ++ Begin ∷ [] = ap (λ x. es ++ x) (begins-last n) ∙ sym (append_assoc es (begins n) (Begin ∷ [])) in
    let up : level ((es ++ begins n) ++ Begin ∷ []) ≡ suc (level (es ++ begins n)) = ap opens (cut_more-append [] (es ++ begins n) (Begin ∷ [])) in
    subst (OpenAfter es (suc n)) (sym last)
    (record {
      level_is = up ∙ ap suc b.level_is ∙ (omega arith);
      ends = ap (end_times n) (end_one-begin (es ++ begins n)) ∙ b.ends;
      adds = ap (λ x. not x || adds_end n (end_one ((es ++ begins n) ++ Begin ∷ []))) (ends_in_begin-begin (es ++ begins n)) ∙ ap (adds_end n) (end_one-begin (es ++ begins n)) ∙ b.adds;
    })

-- what happens after a Begin happens to what stands after it
entries_after-inside : (fresh : Freshness) (event : Event) (xs ys : List Entry) → entries_after fresh event (xs ++ Begin ∷ ys) ≡ xs ++ Begin ∷ entries_after fresh event ys
entries_after-inside fresh event xs [] = from (joined_in fresh event Begin) refl
  where
    from : (o : Option Entry) → joined_in fresh event Begin ≡ o → entries_after fresh event (xs ++ Begin ∷ []) ≡ xs ++ Begin ∷ entries_of event
    from None h = (ends_in fresh event (xs ++ Begin ∷ []) xs Begin None refl h).0 ∙ append_assoc xs (Begin ∷ []) (entries_of event)
    from (Some joint) h = let was = (joins event Begin joint (joined_in-joined fresh event Begin joint h)).was in cc
entries_after-inside fresh event xs (y ∷ ys) = after-past fresh event xs Begin (y ∷ ys)

-- what stands in the record after the Begin of an open group
pub record InsideOf (front es : List Entry) : Type 0 where
  pub inner : List Entry
  pub is : es ≡ front ++ Begin ∷ inner
  pub matched : IsMatched inner

abbrev pub Inside : List Entry → Record → Type 0
Inside front r = InsideOf front r.recorded

pub Inside-event : (event : Event) (front : List Entry) (r : Record) → Inside front r → Inside front (record_step r event)
unfolding record_step
Inside-event event front r k = grind (arith, entries_after-inside, IsMatched-after, last_told-begin, last_told-marks)

pub Inside-begun : (front : List Entry) (r : Record) → Inside front r → Inside front (begun r)
Inside-begun front r k = grind (arith, common_steps, IsMatched-begin)

pub Inside-reopened : (front : List Entry) (r : Record) → Inside front r → Inside front (reopened r)
Inside-reopened front r k = cond_both (ends_in_end r.recorded) _ _ (Inside front) (λ h. from k.inner k.is k.matched h) (λ _. k)
  where
    from : (inner : List Entry) → r.recorded ≡ front ++ Begin ∷ inner → IsMatched inner → ends_in_end r.recorded ≡ true → InsideOf front (take (length r.recorded - 1) r.recorded)
    from = by_last (λ inner. r.recorded ≡ front ++ Begin ∷ inner → IsMatched inner → ends_in_end r.recorded ≡ true → InsideOf front (take (length r.recorded - 1) r.recorded))
        (λ is m h. let other = ap ends_in_end is ∙ skips ends_in_end (λ e d ds. refl) front Begin [] in cc)
        (λ ys y is m h.
        let all = is ∙ sym (append_assoc front (Begin ∷ ys) (y ∷ [])) in
        record { inner = ys; is = ap (λ es. take (length es - 1) es) all ∙ but_last (front ++ Begin ∷ ys) y; matched = IsMatched-front ys (y ∷ []) m })

pub Inside-steps : (steps : List InGroup) (front : List Entry) (r : Record) → Inside front r → Inside front (after_in_group steps r)
Inside-steps [] front r k = k
Inside-steps (Hears event ∷ steps) front r k = Inside-steps steps front (record_step r event) (Inside-event event front r k)
Inside-steps (Begins ∷ steps) front r k = Inside-steps steps front (begun r) (Inside-begun front r k)

pub past_begin : (xs ys : List Entry) → drop (suc (length xs)) (xs ++ Begin ∷ ys) ≡ ys
past_begin [] ys = refl
past_begin (x ∷ xs) ys = past_begin xs ys

-- where no change was recorded after the begin, all that stands there is a Begin
open_groups : (r : Record) (steps : List InGroup) → level r.recorded ≡ 0
    → has_change (drop (suc (length r.recorded)) (after_in_group steps (begun r)).recorded) ≡ false
    → OpenAfter r.recorded (level (after_in_group steps (begun r)).recorded) (after_in_group steps (begun r)).recorded
unfolding begins quiet
open_groups r steps none c =
    let k = Inside-steps steps r.recorded (begun r) (record { inner = []; is = refl; matched = refl }) in
    let inner_is : drop (suc (length r.recorded)) (after_in_group steps (begun r)).recorded ≡ k.inner = ap (drop (suc (length r.recorded))) k.is ∙ past_begin r.recorded k.inner in
    let all = all_begins k.inner [] (ap has_change (sym inner_is) ∙ c) refl k.matched in
    let n = suc (length k.inner) in
    let is : r.recorded ++ begins n ≡ (after_in_group steps (begun r)).recorded = sym (k.is ∙ ap (λ x. r.recorded ++ Begin ∷ x) all) in
    let o = subst (OpenAfter r.recorded n) is (open_after r.recorded n) in
    subst (λ m. OpenAfter r.recorded m (after_in_group steps (begun r)).recorded) (sym (o.level_is ∙ ap (λ m. n + m) none ∙ add-zero n)) o

-- its end leaves what was recorded before its begin, and adds no End
pub group-empty : (r : Record) (steps : List InGroup) → level r.recorded ≡ 0
    → has_change (drop (suc (length r.recorded)) (after_in_group steps (begun r)).recorded) ≡ false
    → (ended (after_in_group steps (begun r))).recorded ≡ r.recorded
group-empty r steps none c = (open_groups r steps none c).ends

pub group-empty-end : (r : Record) (steps : List InGroup) → level r.recorded ≡ 0
    → has_change (drop (suc (length r.recorded)) (after_in_group steps (begun r)).recorded) ≡ false
    → adds_end (level (after_in_group steps (begun r)).recorded) (after_in_group steps (begun r)).recorded ≡ false
group-empty-end r steps none c = (open_groups r steps none c).adds
