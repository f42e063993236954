-- The save point of a record: it stays as long as the changes before it do.
use Rattle.rl_record.proofs.Common.{Begin, Bool, Changed, Cursors, End, Entry, Kind, List, None, Option, Parted, Record, SavedAt, Some, Stale, StaysSaved, Swap, [], ap, append-nil, append_assoc, arith, arrived, begun, change_count, changes_of, closed_all, cond, cond_both, drop, end_times, ends_in_end, eqb-true, event_of, false, freshness_added, freshness_at, freshness_told, inl, inr, is_at, is_parted, is_saved, joined, kept_of, kept_point, last_of, last_told, leb-false, leb-true, length, length-append, length-take, level, nat_le, option_and_then, parted, point_kept, redo_of, redone, refl, reopened, replay_entries, saved_here, subst, sym, take, take-append-drop, take-append-le, take_all, there_and_back, true, truncated, turned_all, undone, with_closed, with_cursors, ℕ, ◌++◌, ◌-◌, ◌<◌, ◌==◌, ◌∙◌, ◌∷◌, ◌≡◌, ◌≤◌, ◌⊎◌}
use Rattle.rl_base.specs.Event.{Delete, Event, InsertChar, InsertStr, Replace, Start, Stop, apply}
use Rattle.rl_record.proofs.Records.JoinLemmas.{heard, step-Cursors, step-cases, told-stale}
use Rattle.rl_record.proofs.Records.LastLemmas.{after-cases, by_last, last_told-past, parted-apart, told-twice}
use Rattle.rl_record.proofs.Records.MatchLemmas.{redo-front}
use Rattle.rl_record.proofs.Records.PointLemmas.{changes-append, changes-begin, changes-end_times}
use Rattle.rl_record.proofs.Records.RecordLemmas.{joins}
use Rattle.rl_record.proofs.Records.ToldLemmas.{told-cases}
use Rattle.rl_record.proofs.Records.UnitLemmas.{kept-last}
use Rattle.rl_record.specs.Record.{entries_of, record_step}
use Rattle.rl_record.specs.Units.{still_waiting}
use Rattle.std.proofs.lemmas.Bool.{eq-eqb}

-- a record that came to some entries can't be told cursors
pub told-at : (count : ℕ) (point : Option ℕ) → freshness_told (freshness_at count point) ≡ freshness_at count point
told-at count point = from (is_at count point)
  where
    from : (x : Bool) → freshness_told (cond x Parted Stale) ≡ cond x Parted Stale
    from true = refl
    from false = refl

-- ---- a save point that stays
-- a save point in a list of changes has these before it, if it is there
abbrev pub StaysIn : List Entry → List Entry → Option ℕ → Type 0
StaysIn cs l point = (point ≡ None) ⊎ ((point ≡ Some (length cs)) × (take (length cs) l ≡ cs))

fits-in : (cs l : List Entry) → take (length cs) l ≡ cs → length cs ≤ length l
fits-in cs l e = omega (arith, ap length e, length-take (length cs) l)

-- in more changes, and in the first of them
longer : (cs l more : List Entry) (point : Option ℕ) → StaysIn cs l point → StaysIn cs (l ++ more) point
longer cs l more point s = elim s [ inl none ↦ inl none | inr p ↦ inr (p.0, take-append-le (length cs) l more (fits-in cs l p.1) ∙ p.1) ]

shorter : (cs front rest l : List Entry) (point : Option ℕ) → l ≡ front ++ rest → StaysIn cs l point → StaysIn cs front (kept_point (length front) point)
shorter cs front rest l point e s = elim s [
  | inl none ↦ inl (ap (kept_point (length front)) none)
  | inr p ↦ subst (λ o. StaysIn cs front (kept_point (length front) o)) (sym p.0) (from (nat_le (length cs) (length front)) refl p.1)
]
  where
    from : (x : Bool) → nat_le (length cs) (length front) ≡ x → take (length cs) l ≡ cs → StaysIn cs front (cond x (Some (length cs)) None)
    from true h at = inr (refl, sym (take-append-le (length cs) front rest (leb-true (length cs) (length front) h)) ∙ ap (take (length cs)) (sym e) ∙ at)
    from false h at = inl refl

-- in a record
stays-in : (cs : List Entry) (r : Record) → StaysSaved cs r → StaysIn cs (changes_of (r.recorded ++ r.pending)) r.saved
stays-in cs r s = elim s [ inl none ↦ inl none | inr a ↦ inr (a.point, a.begins) ]

-- in its recorded entries, once what was undone is dropped
settles-in : (cs : List Entry) (r : Record) → StaysSaved cs r → StaysIn cs (changes_of r.recorded) (point_kept r)
settles-in cs r s = shorter cs (changes_of r.recorded) (changes_of r.pending) (changes_of (r.recorded ++ r.pending)) r.saved (changes-append r.recorded r.pending) (stays-in cs r s)

-- a record that came to some entries
arrived-stays : (cs l pending : List Entry) (point : Option ℕ) → StaysIn cs (changes_of (l ++ pending)) point → StaysSaved cs (arrived l pending point)
arrived-stays cs l pending point s = elim s [
  | inl none ↦ inl none
  | inr p ↦ inr (record {
    point = p.0;
    begins = p.1;
    apart = λ long. ap (freshness_at (change_count l)) p.0 ∙ ap (λ (x : Bool). cond x Parted Stale) (eq-eqb (length cs) (change_count l) (sym long));
    told = λ _. told-at (change_count l) point;
  })
]

-- in which nothing waits to be redone
pub arrived-all : (cs l : List Entry) (point : Option ℕ) → StaysIn cs (changes_of l) point → StaysSaved cs (arrived l [] point)
arrived-all cs l point s = arrived-stays cs l [] point (subst (λ x. StaysIn cs (changes_of x) point) (sym (append-nil l)) s)

-- the same changes, which were recorded or wait
same-in : (cs : List Entry) (r : Record) (l : List Entry) → l ≡ r.recorded ++ r.pending → StaysSaved cs r → StaysIn cs (changes_of l) r.saved
same-in cs r l e s = subst (λ x. StaysIn cs (changes_of x) r.saved) (sym e) (stays-in cs r s)

pub saved-undone : (cs : List Entry) (r : Record) (n : ℕ) → StaysSaved cs r → StaysSaved cs (undone n r)
saved-undone cs r n s =
    arrived-stays cs (kept_of n r.recorded) (last_of n r.recorded ++ r.pending) r.saved
    (same-in cs r _ (sym (append_assoc (kept_of n r.recorded) (last_of n r.recorded) r.pending) ∙ ap (λ l. l ++ r.pending) (kept-last n r.recorded)) s)

pub saved-redone : (cs : List Entry) (r : Record) → StaysSaved cs r → StaysSaved cs (redone r)
saved-redone cs r s =
    let left = drop (length (redo_of r.pending)) r.pending in
    arrived-stays cs (r.recorded ++ redo_of r.pending) left r.saved (same-in cs r _ (append_assoc r.recorded (redo_of r.pending) left ∙ ap (λ l. r.recorded ++ l) (redo-front r.pending)) s)

pub saved-truncated : (cs : List Entry) (r : Record) (len : ℕ) → StaysSaved cs r → StaysSaved cs (truncated len r)
saved-truncated cs r len s =
    let front = take len r.recorded in
    let rest = drop len r.recorded ++ r.pending in
    let whole = ap (λ l. l ++ r.pending) (sym (take-append-drop len r.recorded)) ∙ append_assoc front (drop len r.recorded) r.pending in
    arrived-all cs front _ (shorter cs (changes_of front) (changes_of rest) (changes_of (r.recorded ++ r.pending)) r.saved (ap changes_of whole ∙ changes-append front rest) (stays-in cs r s))

pub saved-reopened : (cs : List Entry) (r : Record) → StaysSaved cs r → StaysSaved cs (reopened r)
saved-reopened cs r s = cond_both (ends_in_end r.recorded) _ _ (StaysSaved cs) (λ _. saved-truncated cs r (length r.recorded - 1) s) (λ _. s)

-- marks come and go
pub saved-dropped : (cs es : List Entry) (r : Record) → changes_of es ≡ changes_of r.recorded → StaysSaved cs r → StaysSaved cs (arrived es [] (point_kept r))
saved-dropped cs es r e s = arrived-all cs es (point_kept r) (subst (λ l. StaysIn cs l (point_kept r)) (sym e) (settles-in cs r s))

-- the same where nothing waited
pub saved-dropped_all : (cs es : List Entry) (r : Record) → changes_of es ≡ changes_of r.recorded → r.pending ≡ [] → StaysSaved cs r → StaysSaved cs (arrived es [] r.saved)
saved-dropped_all cs es r e none s =
    arrived-all cs es r.saved (subst (λ l. StaysIn cs l r.saved) (ap (λ l. changes_of (r.recorded ++ l)) none ∙ ap changes_of (append-nil r.recorded) ∙ sym e) (stays-in cs r s))

pub saved-closed : (cs : List Entry) (r : Record) (n : ℕ) → StaysSaved cs r → StaysSaved cs (with_closed n r)
saved-closed cs r n s = saved-dropped cs (end_times n r.recorded) r (changes-end_times n r.recorded) s

pub saved-begun : (cs : List Entry) (r : Record) → StaysSaved cs r → StaysSaved cs (begun r)
saved-begun cs r s = saved-dropped cs (r.recorded ++ Begin ∷ []) r (changes-begin r.recorded) s

pub saved-waiting : (cs es : List Entry) (r : Record) → changes_of es ≡ changes_of r.recorded → StaysSaved cs r → StaysSaved cs (still_waiting es r)
saved-waiting cs es r e s =
    arrived-stays cs es r.pending r.saved
    (subst (λ l. StaysIn cs l r.saved) (changes-append r.recorded r.pending ∙ ap (λ l. l ++ changes_of r.pending) (sym e) ∙ sym (changes-append es r.pending)) (stays-in cs r s))

-- what was undone is kept: its changes are recorded, and then more
pub saved-there_and_back : (cs : List Entry) (r : Record) → StaysSaved cs r → StaysSaved cs (arrived (r.recorded ++ there_and_back r.pending) [] r.saved)
saved-there_and_back cs r s =
    let c = closed_all r.pending in
    let same : changes_of (r.recorded ++ c) ≡ changes_of (r.recorded ++ r.pending) =
    changes-append r.recorded c ∙ ap (λ l. changes_of r.recorded ++ l) (changes-end_times (level r.pending) r.pending) ∙ sym (changes-append r.recorded r.pending) in
    let all : changes_of (r.recorded ++ there_and_back r.pending) ≡ changes_of (r.recorded ++ r.pending) ++ changes_of (turned_all c) =
    ap changes_of (sym (append_assoc r.recorded c (turned_all c))) ∙ changes-append (r.recorded ++ c) (turned_all c) ∙ ap (λ l. l ++ changes_of (turned_all c)) same in
    arrived-all cs (r.recorded ++ there_and_back r.pending) r.saved
    (subst (λ l. StaysIn cs l r.saved) (sym all) (longer cs (changes_of (r.recorded ++ r.pending)) (changes_of (turned_all c)) r.saved (stays-in cs r s)))

-- ---- an event
-- changes that are all before the last one stay, whatever becomes of that
abbrev StaysBefore : List Entry → List Entry → Type 0
StaysBefore cs l = (take (length cs) (changes_of l) ≡ cs) × (length cs < change_count l)

before-last : (cs front : List Entry) (e d : Entry) → length cs < length (front ++ e ∷ []) → take (length cs) (front ++ e ∷ []) ≡ cs
    → (take (length cs) (front ++ d ∷ []) ≡ cs) × (length cs < length (front ++ d ∷ []))
before-last cs front e d lt at =
    let few : length cs ≤ length front = omega (arith, lt, length-append front (e ∷ [])) in
    (take-append-le (length cs) front (d ∷ []) few ∙ sym (take-append-le (length cs) front (e ∷ []) few) ∙ at, omega (arith, few, length-append front (d ∷ [])))

-- a change for a change
before-change : (cs front : List Entry) (kind kind' : Kind) (swap swap' : Swap) → StaysBefore cs (front ++ Changed kind swap ∷ []) → StaysBefore cs (front ++ Changed kind' swap' ∷ [])
before-change cs front kind kind' swap swap' b =
    subst (λ l. (take (length cs) l ≡ cs) × (length cs < length l)) (sym (changes-append front (Changed kind' swap' ∷ [])))
    (before-last cs (changes_of front) (Changed kind swap) (Changed kind' swap') (subst (λ l. length cs < length l) (changes-append front (Changed kind swap ∷ [])) b.1)
    (ap (take (length cs)) (sym (changes-append front (Changed kind swap ∷ []))) ∙ b.0))

before-joint : (cs front : List Entry) (event : Event) (e joint : Entry) → joined event e ≡ Some joint → StaysBefore cs (front ++ e ∷ []) → StaysBefore cs (front ++ joint ∷ [])
before-joint cs front event e joint h b =
    let j = joins event e joint h in
    subst (λ x. StaysBefore cs (front ++ x ∷ [])) j.is (before-change cs front j.kind j.kind j.last j.now (subst (λ x. StaysBefore cs (front ++ x ∷ [])) j.was b))

before-told : (cs front : List Entry) (cursors : ℕ × ℕ) (e : Entry) → StaysBefore cs (front ++ e ∷ []) → StaysBefore cs (front ++ with_cursors cursors e ∷ [])
before-told cs front cursors Begin b = b
before-told cs front cursors End b = b
before-told cs front cursors (Changed kind swap) b = before-change cs front kind kind swap _ b

before-more : (cs l more : List Entry) → StaysBefore cs l → StaysBefore cs (l ++ more)
before-more cs l more b = (
  ap (take (length cs)) (changes-append l more) ∙ take-append-le (length cs) (changes_of l) (changes_of more) (omega (arith, b.1)) ∙ b.0,
  omega (arith, b.1, ap length (changes-append l more), length-append (changes_of l) (changes_of more)),
)

-- a record in which more is recorded than stood before the point
past-point : (cs : List Entry) (r : Record) → r.saved ≡ Some (length cs) → StaysBefore cs r.recorded → StaysSaved cs r
past-point cs r point b = inr (record {
  point = point;
  begins = (before-more cs r.recorded r.pending b).0;
  apart = λ long. absurd (omega (arith, b.1, long));
  told = λ few. absurd (omega (arith, few, b.1));
})

-- what an event adds is changes
adds-changes : (event : Event) → changes_of (entries_of event) ≡ entries_of event
unfolding entries_of
adds-changes (InsertChar i c) = refl
adds-changes (InsertStr i s) = cond_both (length s == 0) _ _ (λ l. changes_of l ≡ l) (λ _. refl) (λ _. refl)
adds-changes (Delete i s side) = cond_both (length s == 0) _ _ (λ l. changes_of l ≡ l) (λ _. refl) (λ _. refl)
adds-changes (Replace i s t) = refl
adds-changes Start = refl
adds-changes Stop = refl
adds-changes (Cursors b a) = refl

-- at the point an event adds its entries
at-point : (cs : List Entry) (r : Record) (event : Event) → r.fresh ≡ Parted → take (length cs) (changes_of r.recorded) ≡ cs → point_kept r ≡ Some (length cs) → StaysSaved cs (heard event r)
at-point cs r event p at point =
    let a = parted-apart r.fresh event r.recorded (ap is_parted p) in
    subst (StaysSaved cs) (sym (ap (λ l. record (heard event r) { recorded = l }) a.0 ∙ ap (λ f. record (heard event r) { recorded = r.recorded ++ entries_of event; fresh = f }) a.1))
    (from (entries_of event) (adds-changes event))
  where
    fits : length cs ≤ change_count r.recorded
    fits = fits-in cs (changes_of r.recorded) at

    from : (ks : List Entry) → changes_of ks ≡ ks → StaysSaved cs (record (heard event r) { recorded = r.recorded ++ ks; fresh = freshness_added r.fresh ks })
    from [] all = inr (record {
      point = point;
      begins = ap (λ l. take (length cs) (changes_of l)) (append-nil (r.recorded ++ []) ∙ append-nil r.recorded) ∙ at;
      apart = λ _. ap freshness_told p;
      told = λ _. told-twice r.fresh;
    })
    from (k ∷ ks) all =
        let is : changes_of (r.recorded ++ k ∷ ks) ≡ changes_of r.recorded ++ k ∷ ks = changes-append r.recorded (k ∷ ks) ∙ ap (λ l. changes_of r.recorded ++ l) all in
        past-point cs _ point
        (ap (take (length cs)) is ∙ take-append-le (length cs) (changes_of r.recorded) (k ∷ ks) fits ∙ at, omega (arith, fits, ap length is, length-append (changes_of r.recorded) (k ∷ ks)))

-- before it no change becomes another but those after it
heard-stays : (cs : List Entry) (r : Record) (event : Event) → StaysSaved cs r → StaysSaved cs (heard event r)
heard-stays cs r event s = elim s [ inl none ↦ inl (ap (kept_point (change_count r.recorded)) none) | inr a ↦ elim (settles-in cs r (inr a)) [ inl none ↦ inl none | inr p ↦ from (nat_le (change_count r.recorded) (length cs)) refl a p ] ]
  where
    from : (x : Bool) → nat_le (change_count r.recorded) (length cs) ≡ x → SavedAt cs r → (point_kept r ≡ Some (length cs)) × (take (length cs) (changes_of r.recorded) ≡ cs) → StaysSaved cs (heard event r)
    from true h a p =
        let long : change_count r.recorded ≡ length cs = omega (arith, fits-in cs (changes_of r.recorded) p.1, leb-true (change_count r.recorded) (length cs) h) in
        at-point cs r event (a.apart long) p.1 p.0
    from false h a p =
        past-point cs (heard event r) p.0 (after-cases r.fresh event (λ xs ys f. StaysBefore cs xs → StaysBefore cs ys) (λ xs b. before-more cs xs (entries_of event) b)
        (λ front e joint j b. before-joint cs front event e joint j b) r.recorded (p.1, leb-false (change_count r.recorded) (length cs) h))

told-stays : (cs : List Entry) (r : Record) (b a : ℕ) → StaysSaved cs r → StaysSaved cs (record_step r (Cursors b a))
told-stays cs r b a s = elim s [ inl none ↦ inl (ap (λ (k : Record). k.saved) (step-Cursors r b a) ∙ none) | inr x ↦ from (nat_le (change_count r.recorded) (length cs)) refl x ]
  where
    from : (y : Bool) → nat_le (change_count r.recorded) (length cs) ≡ y → SavedAt cs r → StaysSaved cs (record_step r (Cursors b a))
    from true h x = subst (StaysSaved cs) (told-stale r b a (x.told (leb-true (change_count r.recorded) (length cs) h))) (inr x)
    from false h x =
        let more = leb-false (change_count r.recorded) (length cs) h in
        let before : StaysBefore cs r.recorded = (sym (take-append-le (length cs) (changes_of r.recorded) (changes_of r.pending) (omega (arith, more))) ∙ ap (take (length cs)) (sym (changes-append r.recorded r.pending)) ∙ x.begins, more) in
        subst (StaysSaved cs) (sym (step-Cursors r b a)) (past-point cs _ x.point (told-cases (StaysBefore cs) r.fresh b a r.recorded before
        (λ cursors. by_last (λ l. StaysBefore cs l → StaysBefore cs (last_told cursors l)) (λ k. k)
        (λ front e k. subst (StaysBefore cs) (sym (last_told-past cursors front e [])) (before-told cs front cursors e k)) r.recorded before)))

pub saved-step : (cs : List Entry) (r : Record) (event : Event) → StaysSaved cs r → StaysSaved cs (record_step r event)
saved-step cs r event s = step-cases r (λ _ k. StaysSaved cs k) (λ heard. heard-stays cs r heard s) (λ _ _. s) (λ b a. told-stays cs r b a s) event

pub saved-parted : (cs : List Entry) (r : Record) → StaysSaved cs r → StaysSaved cs (parted r)
saved-parted cs r s = elim s [ inl none ↦ inl none | inr x ↦ inr (record { point = x.point; begins = x.begins; apart = λ _. refl; told = λ _. refl }) ]

pub saved-marked : (r : Record) → SavedAt (changes_of r.recorded) (saved_here r)
saved-marked r = record {
  point = refl;
  begins =
      ap (take (change_count r.recorded)) (changes-append r.recorded r.pending) ∙ take-append-le (change_count r.recorded) (changes_of r.recorded) (changes_of r.pending) (omega arith)
      ∙ take_all (change_count r.recorded) (changes_of r.recorded) (omega arith);
  apart = λ _. refl;
  told = λ _. refl;
}

-- ---- where a record stands
pub saved-back : (cs : List Entry) (r : Record) → StaysSaved cs r → is_saved r ≡ true → changes_of r.recorded ≡ cs
saved-back cs r s h = elim s [
  | inl none ↦ let no : false ≡ true = ap (is_at (change_count r.recorded)) (sym none) ∙ h in cc
  | inr x ↦
      let n = change_count r.recorded in
      let long : length cs ≡ n = eqb-true (length cs) n (ap (is_at n) (sym x.point) ∙ h) in
      sym (take_all n (changes_of r.recorded) (omega arith)) ∙ sym (take-append-le n (changes_of r.recorded) (changes_of r.pending) (omega arith))
      ∙ ap (take n) (sym (changes-append r.recorded r.pending)) ∙ ap (λ k. take k (changes_of (r.recorded ++ r.pending))) (sym long) ∙ x.begins
]

pub saved-there : (cs : List Entry) (r : Record) → SavedAt cs r → changes_of r.recorded ≡ cs → is_saved r ≡ true
saved-there cs r x same = ap (is_at (change_count r.recorded)) x.point ∙ ap (λ l. length cs == length l) same ∙ eq-eqb (length cs) (length cs) refl

-- marks lead nowhere, so the text is the saved one
pub replay-changes : (es : List Entry) (text : List ℕ) → replay_entries es text ≡ replay_entries (changes_of es) text
unfolding apply
replay-changes [] text = refl
replay-changes (Begin ∷ es) text = replay-changes es text
replay-changes (End ∷ es) text = replay-changes es text
replay-changes (Changed kind swap ∷ es) text = from (replay-changes es) (apply (event_of (Changed kind swap)) text)
  where
    from : ((now : List ℕ) → replay_entries es now ≡ replay_entries (changes_of es) now) → (o : Option (List ℕ))
        → option_and_then (replay_entries es) o ≡ option_and_then (replay_entries (changes_of es)) o
    from same None = refl
    from same (Some now) = same now

pub saved-leads : (cs : List Entry) (r : Record) (start : List ℕ) → StaysSaved cs r → is_saved r ≡ true → replay_entries r.recorded start ≡ replay_entries cs start
saved-leads cs r start s h = replay-changes r.recorded start ∙ ap (λ l. replay_entries l start) (saved-back cs r s h)

pub saved-replays : (es : List Entry) (r : Record) (start : List ℕ) → StaysSaved (changes_of es) r → is_saved r ≡ true → replay_entries r.recorded start ≡ replay_entries es start
saved-replays es r start s h = saved-leads (changes_of es) r start s h ∙ sym (replay-changes es start)
