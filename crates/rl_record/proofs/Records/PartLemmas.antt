-- A record that is parted: the next change joins nothing.
use Rattle.rl_record.proofs.Common.{Bool, Changed, Cursors, Delete, Deletion, Entry, Event, InsertChar, InsertStr, Insertion, List, Parted, Record, Replace, Start, Stop, [], ap, append-nil, arith, eqb-true, false, if◌then◌else◌, is_change, kept_of, last_of, length, parted, refl, sym, true, untold, ℕ, ◌++◌, ◌<◌, ◌==◌, ◌∙◌, ◌∷◌, ◌≡◌}
use Rattle.rl_record.proofs.Records.LastLemmas.{alone-parted}
use Rattle.rl_record.proofs.Records.UnitLemmas.{kept_of-change, last_of-change}
use Rattle.rl_record.specs.Record.{IsRecorded, entries_of, record_step}

-- an event adds its entries there
pub parted-adds : (r : Record) (event : Event) → (record_step (parted r) event).recorded ≡ r.recorded ++ entries_of event
unfolding record_step entries_of
parted-adds r (Cursors before after) = sym (append-nil r.recorded)
parted-adds r event = (alone-parted event r.recorded).0

adds-text : (s : List ℕ) (e : Entry) → 0 < length s → (if length s == 0 then [] else e ∷ []) ≡ e ∷ []
adds-text s e some = from (length s == 0) refl
  where
    from : (b : Bool) → (length s == 0) ≡ b → (if b then [] else e ∷ []) ≡ e ∷ []
    from true h = absurd (omega (arith, some, eqb-true (length s) 0 h))
    from false h = refl

-- what is recorded is one change
one-change : (event : Event) → IsRecorded event → (e : Entry) × (is_change e ≡ true) × (entries_of event ≡ e ∷ [])
unfolding entries_of
one-change (InsertChar i c) h = (_, refl, refl)
one-change (InsertStr i s) h = (Changed Insertion (untold i [] s), refl, adds-text s _ h)
one-change (Delete i s side) h = (Changed Deletion (untold i s []), refl, adds-text s _ h)
one-change (Replace i s t) h = (_, refl, refl)
one-change Start h = absurd h
one-change Stop h = absurd h
one-change (Cursors before after) h = absurd h

-- and so it is the last unit
pub parted-unit : (r : Record) (event : Event) → IsRecorded event
    → (last_of 1 (record_step (parted r) event).recorded ≡ entries_of event) × (kept_of 1 (record_step (parted r) event).recorded ≡ r.recorded)
parted-unit r event h =
    let (e, change, one) = one-change event h in
    let now = parted-adds r event ∙ ap (λ es. r.recorded ++ es) one in
    (ap (last_of 1) now ∙ last_of-change 1 e r.recorded (omega arith) change ∙ sym one, ap (kept_of 1) now ∙ kept_of-change e r.recorded change)

-- what records nothing leaves the record parted
pub parted-stays : (r : Record) (event : Event) → ¬ (IsRecorded event) → (record_step (parted r) event).fresh ≡ Parted
unfolding record_step entries_of
parted-stays r (InsertChar i c) h = absurd (h tt)
parted-stays r (InsertStr i []) h = (alone-parted (InsertStr i []) r.recorded).1
parted-stays r (InsertStr i (x ∷ s)) h = absurd (h (omega arith))
parted-stays r (Delete i [] side) h = (alone-parted (Delete i [] side) r.recorded).1
parted-stays r (Delete i (x ∷ s) side) h = absurd (h (omega arith))
parted-stays r (Replace i s t) h = absurd (h tt)
parted-stays r Start h = refl
parted-stays r Stop h = refl
parted-stays r (Cursors before after) h = refl
