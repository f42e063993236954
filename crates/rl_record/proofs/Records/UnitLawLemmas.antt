-- What is recorded while a unit is made: changes that join nothing from before it. Once united they are the last unit.
use Rattle.rl_record.proofs.Common.{Begin, Bool, Changed, Cursors, End, Entry, Event, Freshness, IsMatched, List, Open, Record, Some, Start, Stop, UndoUnit, Whole, [], ap, append-nil, arith, both_ways, cond_both, drop, drop-append-le, drop_all, drop_at, entries_after, eqb-true, false, freshness_added, has_change, inl, inr, is_change, is_saved, kept_of, last_of, last_told, leb-false, length, length-append, length-drop, listener_after, marks, nat_le, not, option_and_then, option_map_or, or-true, put_in_first, refl, reverse-append, subst, sym, take, take-append-le, take_all, take_at, together, true, units, waits, ℕ, ◌&&◌, ◌++◌, ◌+◌, ◌-◌, ◌<◌, ◌==◌, ◌||◌, ◌∙◌, ◌∷◌, ◌≡◌, ◌≤◌, ◌⊎◌}
use Rattle.rl_line.proofs.Changes.InverseLemmas.{has_change-append}
use Rattle.rl_line.specs.Plan.{Step}
use Rattle.rl_record.proofs.Records.LastLemmas.{after-cases, after-past, alone-parted, last_told-past}
use Rattle.rl_record.proofs.Records.PartLemmas.{parted-adds}
use Rattle.rl_record.proofs.Records.RecordLemmas.{joins, none_or_one}
use Rattle.rl_record.proofs.Records.ToldLemmas.{recorded-cases}
use Rattle.rl_record.proofs.Records.UnitLemmas.{AllGood, kept-last, kept_of-change, last_of-change, marks-append, together-units, units-good}
use Rattle.rl_record.proofs.Records.UnitingLemmas.{unit-united, united-cases}
use Rattle.rl_record.specs.Record.{entries_of, parted, pending_after, record_step}
use Rattle.rl_record.specs.Units.{put_in_last, unit_start, united}
use Rattle.rl_record.specs.declared.changeset.groups.UnitStart.{UnitStart}
use Rattle.rl_record.specs.declared.joining.Freshness.TheVariants.{Parted}
use Rattle.std.proofs.lemmas.Bool.{and_from, and_parts, eq-eqb, ne_eqb, not-true}

-- changes alone, and at least one
abbrev AllChanges : List Entry → Type 0
AllChanges [] = Unit {0}
AllChanges (e ∷ es) = (is_change e ≡ true) × AllChanges es

abbrev IsPart : List Entry → Type 0
IsPart es = AllChanges es × (0 < length es)

AllChanges-append : (xs ys : List Entry) → AllChanges xs → AllChanges ys → AllChanges (xs ++ ys)
AllChanges-append [] ys p q = q
AllChanges-append (x ∷ xs) ys p q = (p.0, AllChanges-append xs ys p.1 q)

AllChanges-left : (xs ys : List Entry) → AllChanges (xs ++ ys) → AllChanges xs
AllChanges-left [] ys p = tt
AllChanges-left (x ∷ xs) ys p = (p.0, AllChanges-left xs ys p.1)

-- they leave no group open
changes-marks : (es : List Entry) → AllChanges es → marks es [] ≡ Some []
changes-marks [] p = refl
changes-marks (Changed k c ∷ es) p = changes-marks es p.1
changes-marks (Begin ∷ es) p = let no = p.0 in cc
changes-marks (End ∷ es) p = let no = p.0 in cc

part-change : (es : List Entry) → IsPart es → has_change es ≡ true
part-change [] p = absurd (omega (arith, p.1))
part-change (e ∷ es) p = ap (λ b. b || has_change es) p.0.0

-- ---- an event
entries-changes : (event : Event) → AllChanges (entries_of event)
entries-changes event = elim (none_or_one event) [
  | inl none ↦ subst AllChanges (sym none) tt
  | inr (k, c, one) ↦ subst AllChanges (sym one) (refl, tt)
]

part-after : (was : Freshness) (event : Event) (es : List Entry) → IsPart es → IsPart (entries_after was event es)
part-after was event es p =
    after-cases was event (λ xs ys _. IsPart xs → IsPart ys)
    (λ xs q. (AllChanges-append xs (entries_of event) q.0 (entries-changes event), omega (arith, q.1, length-append xs (entries_of event))))
    (λ front e joint j q.
    (AllChanges-append front (joint ∷ []) (AllChanges-left front (e ∷ []) q.0) (subst (λ d. AllChanges (d ∷ [])) (joins event e joint j).is (refl, tt)), omega (arith, length-append front (joint ∷ []))))
    es p

part-told : (cursors : ℕ × ℕ) (es : List Entry) → IsPart es → IsPart (last_told cursors es)
part-told cursors [] p = p
part-told cursors (Changed k c ∷ []) p = p
part-told cursors (Begin ∷ []) p = p
part-told cursors (End ∷ []) p = p
part-told cursors (e ∷ (d ∷ ds)) p =
    let rest = part-told cursors (d ∷ ds) (p.0.1, omega arith) in
    ((p.0.0, rest.0), omega arith)

-- entries of which a part stands after these
record PartAfter (front es : List Entry) : Type 0 where
  inner : List Entry
  is : es ≡ front ++ inner
  part : IsPart inner

after-part : (was : Freshness) (event : Event) (front inner : List Entry) → IsPart inner → PartAfter front (entries_after was event (front ++ inner))
after-part was event front [] p = absurd (omega (arith, p.1))
after-part was event front (x ∷ xs) p = record { inner = entries_after was event (x ∷ xs); is = after-past was event front x xs; part = part-after was event (x ∷ xs) p }

told-part : (cursors : ℕ × ℕ) (front inner : List Entry) → IsPart inner → PartAfter front (last_told cursors (front ++ inner))
told-part cursors front [] p = absurd (omega (arith, p.1))
told-part cursors front (x ∷ xs) p = record { inner = last_told cursors (x ∷ xs); is = last_told-past cursors front x xs; part = part-told cursors (x ∷ xs) p }

-- ---- a record that was parted: it still is and nothing was added, or a part was and nothing waits
record Adds (front : List Entry) (r : Record) : Type 0 where
  part : PartAfter front r.recorded
  none : r.pending ≡ []

record Parts (front : List Entry) (r : Record) : Type 0 where
  same : r.recorded ≡ front
  apart : r.fresh ≡ Parted

abbrev Since : List Entry → Record → Type 0
Since front r = Parts front r ⊎ Adds front r

still-none : (event : Event) (es : List Entry) → es ≡ [] → pending_after event es ≡ []
still-none Start es h = h
still-none Stop es h = h
still-none (Cursors before after) es h = h
still-none _ es h = refl

drops-pending : (event : Event) (e : Entry) (es : List Entry) → entries_of event ≡ e ∷ [] → pending_after event es ≡ []
unfolding entries_of
drops-pending Start e es h = cc
drops-pending Stop e es h = cc
drops-pending (Cursors before after) e es h = cc
drops-pending _ e es h = refl

stays-parted : (r : Record) (event : Event) → entries_of event ≡ [] → (record_step (parted r) event).fresh ≡ Parted
unfolding record_step entries_of
stays-parted r Start h = refl
stays-parted r Stop h = refl
stays-parted r (Cursors before after) h = refl
stays-parted r event h = (alone-parted event r.recorded).1 ∙ ap (freshness_added Parted) h

parted-event : (event : Event) (r : Record) → Since r.recorded (record_step (parted r) event)
unfolding record_step
parted-event event r = elim (none_or_one event) [
  | inl none ↦ inl (record { same = parted-adds r event ∙ ap (λ es. r.recorded ++ es) none ∙ append-nil r.recorded; apart = stays-parted r event none })
  | inr (k, c, one) ↦
      inr (record {
        part = record { inner = entries_of event; is = parted-adds r event; part = subst IsPart (sym one) ((refl, tt), omega arith) };
        none = drops-pending event (Changed k c) r.pending one;
      })
]

Since-event : (event : Event) (front : List Entry) (r : Record) → Since front r → Since front (record_step r event)
unfolding record_step
Since-event event front r (inl s) =
    let same : r ≡ parted r = ap (λ fresh. record r { fresh = fresh }) s.apart in
    subst (λ es. Since es (record_step r event)) s.same (subst (λ k. Since r.recorded (record_step k event)) (sym same) (parted-event event r))
Since-event event front r (inr s) =
    inr (record {
      part = recorded-cases (PartAfter front) event r (subst (λ es. PartAfter front (entries_after r.fresh event es)) (sym s.part.is) (after-part r.fresh event front s.part.inner s.part.part))
          (λ es cursors p. subst (λ ks. PartAfter front (last_told cursors ks)) (sym p.is) (told-part cursors front p.inner p.part));
      none = still-none event r.pending s.none;
    })

Since-steps : (steps : List Step) (cursor : ℕ) (front : List Entry) (r : Record) → Since front r → Since front (listener_after record_step cursor steps r)
Since-steps [] cursor front r s = s
Since-steps (step ∷ steps) cursor front r s =
    Since-steps steps step.1 front _ (Since-event (Cursors cursor step.1) front (record_step r step.0) (Since-event step.0 front r s))

-- a record after steps that it heard since it was parted
abbrev pub HeardApart : ℕ → List Step → Record → Record → Type 0
HeardApart cursor steps r now = now ≡ listener_after record_step cursor steps (parted r)

heard-since : (cursor : ℕ) (steps : List Step) (r now : Record) → HeardApart cursor steps r now → Since r.recorded now
heard-since cursor steps r now e = subst (Since r.recorded) (sym e) (Since-steps steps cursor r.recorded (parted r) (inl (record { same = refl; apart = refl })))

heard-adds : (cursor : ℕ) (steps : List Step) (r now : Record) → HeardApart cursor steps r now → length r.recorded < length now.recorded → Adds r.recorded now
heard-adds cursor steps r now e more = elim (heard-since cursor steps r now e) [ inl s ↦ absurd (omega (arith, more, ap length s.same)) | inr s ↦ s ]

-- what was recorded before stays, and nothing joins it
pub heard-stays : (cursor : ℕ) (steps : List Step) (r now : Record) → HeardApart cursor steps r now → take (length r.recorded) now.recorded ≡ r.recorded
heard-stays cursor steps r now e = elim (heard-since cursor steps r now e) [
  | inl s ↦ ap (take (length r.recorded)) s.same ∙ take_all (length r.recorded) r.recorded (omega arith)
  | inr s ↦ ap (take (length r.recorded)) s.part.is ∙ take_at r.recorded s.part.inner (length r.recorded) refl
]

pub heard-none : (cursor : ℕ) (steps : List Step) (r now : Record) → HeardApart cursor steps r now → length r.recorded < length now.recorded → now.pending ≡ []
heard-none cursor steps r now e more = (heard-adds cursor steps r now e more).none

-- ---- what a unit takes in is whole
last-whole : (es : List Entry) → IsMatched es → ¬ (put_in_last es ≡ 0) → marks (last_of 1 es) [] ≡ Some []
last-whole es m some = from (units es) refl (units-good es m)
  where
    from : (us : List UndoUnit) → units es ≡ us → AllGood us → marks (together (take 1 us)) [] ≡ Some []
    from [] e good = refl
    from (Open ∷ us) e good =
        let all : es ≡ together us ++ Begin ∷ [] = sym (together-units es) ∙ ap together e in
        absurd (some (ap put_in_last all ∙ ap (λ l. option_map_or length (put_in_first l) 0) (reverse-append (together us) (Begin ∷ []))))
    from (Whole inner ∷ us) e good = good.0.flags []

taken-whole : (put_in : ℕ) (r : Record) → IsMatched r.recorded → marks (drop (unit_start put_in r).from r.recorded) [] ≡ Some []
taken-whole put_in r m =
    let es = r.recorded in
    let last = last_of 1 es in
    cond_both (not (put_in == 0) && (put_in_last es == put_in && not (is_saved r))) _ _ (λ n. marks (drop (length es - n) es) [] ≡ Some [])
    (λ h.
    let (some, others) = and_parts (not (put_in == 0)) _ h in
    let text = (and_parts (put_in_last es == put_in) _ others).0 in
    let whole = last-whole es m (λ none. both_ways (put_in == 0) (not-true _ some) (eq-eqb put_in 0 (sym (eqb-true _ _ text) ∙ none))) in
    let long : length (kept_of 1 es) ≡ length es - length last = omega (arith, ap length (kept-last 1 es), length-append (kept_of 1 es) last) in
    ap (λ l. marks l []) (ap (drop (length es - length last)) (sym (kept-last 1 es)) ∙ drop_at (kept_of 1 es) last _ long) ∙ whole)
    (λ _. ap (λ l. marks l []) (drop_all (length es - 0) es (omega arith)))

-- ---- so what was heard is the last unit
-- an undo keeps the entries before the unit, and takes back a change
abbrev pub IsUnit : UnitStart → Record → Record → Type 0
IsUnit start r now = (kept_of 1 now.recorded ≡ take start.from r.recorded) × (has_change (last_of 1 now.recorded) ≡ true)

part-united : (start : UnitStart) (r now : Record) → start.len ≡ length r.recorded → start.from ≤ length r.recorded → marks (drop start.from r.recorded) [] ≡ Some [] → Adds r.recorded now
    → IsUnit start r (united start now)
part-united start r now len within whole adds = from (nat_le 2 (length (drop start.from now.recorded))) refl
  where
    taken : List Entry
    taken = drop start.from r.recorded

    inner : List Entry
    inner = adds.part.inner

    rest : drop start.from now.recorded ≡ taken ++ inner
    rest = ap (drop start.from) adds.part.is ∙ drop-append-le start.from r.recorded inner within

    long : length (drop start.from now.recorded) ≡ length taken + length inner
    long = ap length rest ∙ length-append taken inner

    alone : (es : List Entry) → now.recorded ≡ r.recorded ++ es → IsPart es → length es ≤ 1 → length taken ≡ 0 → IsUnit start r now
    alone [] is part few none = absurd (omega (arith, part.1))
    alone (e ∷ (d ∷ ds)) is part few none = absurd (omega (arith, few))
    alone (e ∷ []) is part few none =
        let all = take_all start.from r.recorded (omega (arith, none, length-drop start.from r.recorded)) in
        (ap (kept_of 1) is ∙ kept_of-change e r.recorded part.0.0 ∙ sym all, ap has_change (ap (last_of 1) is ∙ last_of-change 1 e r.recorded (omega arith) part.0.0) ∙ part-change (e ∷ []) part)

    from : (b : Bool) → nat_le 2 (length (drop start.from now.recorded)) ≡ b → IsUnit start r (united start now)
    from true several =
        let closed : marks (drop start.from now.recorded) [] ≡ Some [] =
        ap (λ es. marks es []) rest ∙ marks-append taken inner [] ∙ ap (option_and_then (marks inner)) whole ∙ changes-marks inner adds.part.part.0 in
        let more = ap not (ne_eqb (length now.recorded) start.len (λ e. omega (arith, e, len, adds.part.part.1, ap length adds.part.is, length-append r.recorded inner))) in
        let makes = and_from _ _ more (and_from _ _ (ap (λ es. not (waits es)) adds.none) (and_from _ _ several (ap (λ o. option_map_or (λ (flags : List Bool). length flags == 0) o false) closed))) in
        let (last, kept) = unit-united start now (united start now) refl makes in
        let change = ap has_change rest ∙ has_change-append taken inner ∙ ap (λ b. has_change taken || b) (part-change inner adds.part.part) ∙ or-true (has_change taken) in (
          kept ∙ ap (take start.from) adds.part.is ∙ take-append-le start.from r.recorded inner within,
          ap has_change last ∙ has_change-append (drop start.from now.recorded) (End ∷ []) ∙ ap (λ b. b || false) change,
        )
    from false few =
        let short = leb-false 2 (length (drop start.from now.recorded)) few in
        let same : (united start now).recorded ≡ now.recorded = united-cases start now (λ k. k.recorded ≡ now.recorded) (λ _. refl) (λ m. absurd (omega (arith, short, m.several))) refl in
        let unit = alone inner adds.part.is adds.part.part (omega (arith, short, long)) (omega (arith, short, long, adds.part.part.1)) in
        (ap (kept_of 1) same ∙ unit.0, ap (λ es. has_change (last_of 1 es)) same ∙ unit.1)

pub unit-heard : (put_in cursor : ℕ) (steps : List Step) (r now : Record) → HeardApart cursor steps r now → IsMatched r.recorded → length r.recorded < length now.recorded
    → IsUnit (unit_start put_in r) r (united (unit_start put_in r) now)
unit-heard put_in cursor steps r now e m more = part-united (unit_start put_in r) r now refl (omega arith) (taken-whole put_in r m) (heard-adds cursor steps r now e more)
