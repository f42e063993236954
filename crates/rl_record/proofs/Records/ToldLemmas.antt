-- Entries of which the last is told its cursors: they change nothing but where a cursor goes.
use Rattle.rl_record.proofs.Common.{Begin, Bool, Changed, Cursors, End, Entry, Event, Freshness, List, None, Option, Record, Some, [], ap, append-nil, deep, entries_after, entries_told, event_of, inverse, last_told, mark, marks, option_and_then, recorded_after, refl, subst, unwind, with_cursors, ℕ, ◌++◌, ◌∙◌, ◌∷◌, ◌≡◌}
use Rattle.rl_base.specs.Event.{apply}
use Rattle.rl_record.proofs.Records.LastLemmas.{joins_nothing, last_told-past}
use Rattle.rl_record.specs.Record.{entries_of}
use Rattle.rl_record.specs.declared.joining.Freshness.TheVariants as is

pub apply-Cursors : (before after : ℕ) (text : List ℕ) → apply (Cursors before after) text ≡ Some text
unfolding apply
apply-Cursors before after text = refl

-- cursors add no entry
nothing_added : (was : Freshness) (before after : ℕ) (es : List Entry) → entries_after was (Cursors before after) es ≡ es
unfolding entries_of
nothing_added was before after es = (joins_nothing was (Cursors before after) (λ e. refl) es).0 ∙ append-nil es

pub told-cases : (P : List Entry → Type 0) (fresh : Freshness) (before after : ℕ) (es : List Entry) → P es → ((cursors : ℕ × ℕ) → P (last_told cursors es))
    → P (entries_told fresh before after es)
told-cases P is.Stale before after es h told = h
told-cases P is.Parted before after es h told = h
told-cases P is.Added before after es h told = told (before, after)
told-cases P (is.Joined first) before after es h told = told (first, after)

-- what holds of entries after an event, and stays where a last entry is told its cursors, holds of what is recorded after any event
pub recorded-cases : (P : List Entry → Type 0) (event : Event) (r : Record) → P (entries_after r.fresh event r.recorded)
    → ((es : List Entry) (cursors : ℕ × ℕ) → P es → P (last_told cursors es)) → P (recorded_after event r)
recorded-cases P (Cursors before after) r h told =
    let k = subst P (nothing_added r.fresh before after r.recorded) h in told-cases P r.fresh before after r.recorded k (λ cursors. told r.recorded cursors k)
recorded-cases P _ r h told = h

-- ---- what an entry makes of a text, and takes back
pub same-event : (cursors : ℕ × ℕ) (e : Entry) → event_of (with_cursors cursors e) ≡ event_of e
same-event cursors Begin = refl
same-event cursors End = refl
same-event cursors (Changed k c) = refl

same-inverse : (cursors : ℕ × ℕ) (e : Entry) → event_of (inverse (with_cursors cursors e)) ≡ event_of (inverse e)
same-inverse cursors Begin = refl
same-inverse cursors End = refl
same-inverse cursors (Changed k c) = refl

pub last_told-unwind : (cursors : ℕ × ℕ) (es : List Entry) (text : List ℕ) → unwind (last_told cursors es) text ≡ unwind es text
last_told-unwind cursors [] text = refl
last_told-unwind cursors (e ∷ []) text = ap (λ event. apply event text) (same-inverse cursors e)
last_told-unwind cursors (e ∷ (d ∷ ds)) text = ap (option_and_then (apply (event_of (inverse e)))) (last_told-unwind cursors (d ∷ ds) text)

-- ---- marks
same-mark : (cursors : ℕ × ℕ) (e : Entry) (fs : List Bool) → mark (with_cursors cursors e) fs ≡ mark e fs
same-mark cursors Begin fs = refl
same-mark cursors End fs = refl
same-mark cursors (Changed k c) fs = refl

pub last_told-marks : (cursors : ℕ × ℕ) (es : List Entry) (fs : List Bool) → marks (last_told cursors es) fs ≡ marks es fs
last_told-marks cursors [] fs = refl
last_told-marks cursors (e ∷ []) fs = ap (option_and_then (marks [])) (same-mark cursors e fs)
last_told-marks cursors (e ∷ (d ∷ ds)) fs = after (λ gs. last_told-marks cursors (d ∷ ds) gs) (mark e fs)
  where
    after : ((gs : List Bool) → marks (last_told cursors (d ∷ ds)) gs ≡ marks (d ∷ ds) gs) → (o : Option (List Bool))
        → option_and_then (marks (last_told cursors (d ∷ ds))) o ≡ option_and_then (marks (d ∷ ds)) o
    after same None = refl
    after same (Some gs) = same gs

same-deep : (cursors : ℕ × ℕ) (e : Entry) (n : ℕ) (es : List Entry) → deep n (with_cursors cursors e ∷ es) ≡ deep n (e ∷ es)
same-deep cursors Begin n es = refl
same-deep cursors End n es = refl
same-deep cursors (Changed k c) n es = refl

pub last_told-deep : (cursors : ℕ × ℕ) (es : List Entry) (n : ℕ) → deep n (last_told cursors es) ≡ deep n es
last_told-deep cursors [] n = refl
last_told-deep cursors (e ∷ []) n = same-deep cursors e n []
last_told-deep cursors (Changed k c ∷ (d ∷ ds)) n = last_told-deep cursors (d ∷ ds) n
last_told-deep cursors (other ∷ (d ∷ ds)) n = last_told-deep cursors (d ∷ ds) _

-- what a last entry is told stands after a Begin before it
pub last_told-begin : (cursors : ℕ × ℕ) (xs ys : List Entry) → last_told cursors (xs ++ Begin ∷ ys) ≡ xs ++ Begin ∷ last_told cursors ys
last_told-begin cursors xs [] = last_told-past cursors xs Begin []
last_told-begin cursors xs (y ∷ ys) = last_told-past cursors xs Begin (y ∷ ys)
