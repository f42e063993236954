-- What each call leaves of a record with what is forgotten in front, and of what is counted of it.
use Rattle.rl_record.proofs.Common.{Begin, Change, Cursors, Delete, Direction, End, Entry, Event, Freshness, FrontGone, InsertChar, InsertStr, List, Record, Replace, [], ap, arith, arrived, begun, bytes_held, cut_to, drop, end_times, entry_of, gone_on, length, length-append, length-drop, length-take-le, map, min, parted, past_front, record_step, refl, saved_here, subst, sym, take, take-append-le, take-take, there_and_back, truncated, with_closed, ℕ, ◌++◌, ◌+◌, ◌-◌, ◌∙◌, ◌∷◌, ◌≡◌, ◌≤◌}
use Rattle.rl_record.proofs.Records.FrontLemmas.{Cursors-front, Delete-front, Ends-within, Fronted, InsertChar-front, InsertStr-front, Replace-front, begun-front, cut-front, dropped-front, gone-on-front, grouped-front, kept-undone-front, opened-front, set-saved-front, truncated-all, truncated-front, with_closed-front}
use Rattle.rl_record.proofs.Records.JoinLemmas.{heard, step-Cursors, step-Delete, step-InsertChar, step-InsertStr, step-Replace}
use Rattle.rl_record.proofs.Records.TallyLemmas.{Front-cut, Front-on, GoesOn, on-after, on-all, on-entries_told, on-more, times-front}
use Rattle.rl_record.specs.Units.{grouped_from, still_waiting}
use Rattle.rl_record.specs.declared.forgetting.Tally.{Tally}
use Rattle.rl_line.specs.declared.change.Change.TheVariants as made

-- ---- each call on a record with what is forgotten in front
-- the tally holds of the record that it leaves, and without what is in front this is the record that the call leaves of the other
pub record Leaves (k : ℕ) (t : Tally) (now left : Record) : Type 0 where
  pub gone : FrontGone k t now.recorded
  pub view : past_front k now ≡ left

leaves : (k : ℕ) (t : Tally) (r made now left : Record) → FrontGone k t r.recorded → GoesOn r.recorded made.recorded → Fronted k made left → now ≡ made → Leaves k t now left
leaves k t r made now left f g b e =
    subst (λ q. Leaves k t q left) (sym e) (record { gone = Front-on k t r.recorded made.recorded f g b.ends; view = b.rest })

of-other : (k : ℕ) (t : Tally) (r s now : Record) (f : Record → Record) → past_front k r ≡ s → Leaves k t now (f (past_front k r)) → Leaves k t now (f s)
of-other k t r s now f v l = subst (λ q. Leaves k t now (f q)) v l

heard-leaves : (event : Event) (k : ℕ) (t : Tally) (r s now : Record) → ((q : Record) → record_step q event ≡ heard event q) → Fronted k (record_step r event) (record_step (past_front k r) event)
    → FrontGone k t r.recorded → past_front k r ≡ s → now ≡ record_step r event → Leaves k t now (record_step s event)
heard-leaves event k t r s now step b f v e =
    of-other k t r s now (λ q. record_step q event) v
    (leaves k t r (record_step r event) now (record_step (past_front k r) event) f (subst (λ q. GoesOn r.recorded q.recorded) (sym (step r)) (on-after r.fresh event r.recorded)) b e)

pub InsertChar-leaves : (k i c : ℕ) (t : Tally) (r s now : Record) → FrontGone k t r.recorded → past_front k r ≡ s → now ≡ record_step r (InsertChar i c) → Leaves k t now (record_step s (InsertChar i c))
InsertChar-leaves k i c t r s now f v e = heard-leaves (InsertChar i c) k t r s now (λ q. step-InsertChar q i c) (InsertChar-front k i c r f.ends) f v e

pub InsertStr-leaves : (k i : ℕ) (text : List ℕ) (t : Tally) (r s now : Record) → FrontGone k t r.recorded → past_front k r ≡ s → now ≡ record_step r (InsertStr i text)
    → Leaves k t now (record_step s (InsertStr i text))
InsertStr-leaves k i text t r s now f v e = heard-leaves (InsertStr i text) k t r s now (λ q. step-InsertStr q i text) (InsertStr-front k i text r f.ends) f v e

pub Delete-leaves : (k i : ℕ) (text : List ℕ) (side : Direction) (t : Tally) (r s now : Record) → FrontGone k t r.recorded → past_front k r ≡ s → now ≡ record_step r (Delete i text side)
    → Leaves k t now (record_step s (Delete i text side))
Delete-leaves k i text side t r s now f v e = heard-leaves (Delete i text side) k t r s now (λ q. step-Delete q i text side) (Delete-front k i text side r f.ends) f v e

pub Replace-leaves : (k i : ℕ) (old new : List ℕ) (t : Tally) (r s now : Record) → FrontGone k t r.recorded → past_front k r ≡ s → now ≡ record_step r (Replace i old new)
    → Leaves k t now (record_step s (Replace i old new))
Replace-leaves k i old new t r s now f v e = heard-leaves (Replace i old new) k t r s now (λ q. step-Replace q i old new) (Replace-front k i old new r f.ends) f v e

pub Cursors-leaves : (k before after : ℕ) (t : Tally) (r s now : Record) → FrontGone k t r.recorded → past_front k r ≡ s → now ≡ record_step r (Cursors before after)
    → Leaves k t now (record_step s (Cursors before after))
Cursors-leaves k before after t r s now f v e =
    of-other k t r s now (λ q. record_step q (Cursors before after)) v
    (leaves k t r (record_step r (Cursors before after)) now (record_step (past_front k r) (Cursors before after)) f
    (subst (λ (q : Record). GoesOn r.recorded q.recorded) (sym (step-Cursors r before after)) (on-entries_told r.fresh before after r.recorded)) (Cursors-front k before after r f.ends) e)

pub begun-leaves : (k : ℕ) (t : Tally) (r s now : Record) → FrontGone k t r.recorded → past_front k r ≡ s → now ≡ begun r → Leaves k t now (begun s)
begun-leaves k t r s now f v e = of-other k t r s now begun v (leaves k t r (begun r) now (begun (past_front k r)) f (on-more r.recorded (Begin ∷ [])) (begun-front k r f.ends) e)

pub opened-leaves : (k : ℕ) (t : Tally) (r s now : Record) → FrontGone k t r.recorded → past_front k r ≡ s → now ≡ still_waiting (r.recorded ++ Begin ∷ []) r
    → Leaves k t now (still_waiting (s.recorded ++ Begin ∷ []) s)
opened-leaves k t r s now f v e =
    of-other k t r s now (λ (q : Record). still_waiting (q.recorded ++ Begin ∷ []) q) v
    (leaves k t r (still_waiting (r.recorded ++ Begin ∷ []) r) now (still_waiting (drop k r.recorded ++ Begin ∷ []) (past_front k r)) f (on-more r.recorded (Begin ∷ [])) (opened-front k r f.ends) e)

pub saved-leaves : (k : ℕ) (t : Tally) (r s now : Record) → FrontGone k t r.recorded → past_front k r ≡ s → now ≡ saved_here r → Leaves k t now (saved_here s)
saved-leaves k t r s now f v e = of-other k t r s now saved_here v (leaves k t r (saved_here r) now (saved_here (past_front k r)) f (on-all r.recorded) (set-saved-front k r f.ends) e)

pub parted-leaves : (k : ℕ) (t : Tally) (r s now : Record) → FrontGone k t r.recorded → past_front k r ≡ s → now ≡ parted r → Leaves k t now (parted s)
parted-leaves k t r s now f v e = of-other k t r s now parted v (leaves k t r (parted r) now (parted (past_front k r)) f (on-all r.recorded) (record { ends = f.ends; rest = refl }) e)

pub fresh-leaves : (k : ℕ) (fresh : Freshness) (t : Tally) (r s now : Record) → FrontGone k t r.recorded → past_front k r ≡ s → now ≡ gone_on fresh r → Leaves k t now (gone_on fresh s)
fresh-leaves k fresh t r s now f v e =
    of-other k t r s now (gone_on fresh) v (leaves k t r (gone_on fresh r) now (gone_on fresh (past_front k r)) f (on-all r.recorded) (gone-on-front k fresh r f.ends) e)

abbrev kept : Record → Record
kept q = parted (arrived (q.recorded ++ there_and_back q.pending) [] q.saved)

pub kept-leaves : (k : ℕ) (t : Tally) (r s now : Record) → FrontGone k t r.recorded → past_front k r ≡ s → now ≡ parted (arrived (r.recorded ++ there_and_back r.pending) [] r.saved)
    → Leaves k t now (parted (arrived (s.recorded ++ there_and_back s.pending) [] s.saved))
kept-leaves k t r s now f v e =
    of-other k t r s now kept v (leaves k t r (kept r) now (kept (past_front k r)) f (on-more r.recorded (there_and_back r.pending)) (kept-undone-front k (there_and_back r.pending) r f.ends) e)

-- a refused call left all
pub same-leaves : (k : ℕ) (t : Tally) (r s now : Record) → FrontGone k t r.recorded → past_front k r ≡ s → now ≡ r → Leaves k t now s
same-leaves k t r s now f v e = of-other k t r s now (λ q. q) v (leaves k t r r now (past_front k r) f (on-all r.recorded) (record { ends = f.ends; rest = refl }) e)

-- ---- each call that takes entries off, after the tally
-- what the tally is of the first l entries
pub record IsWithin (l : ℕ) (t now : Tally) (es : List Entry) : Type 0 where
  pub counted : now.counted ≡ min t.counted l
  pub held : bytes_held (take now.counted es) ≡ now.held
  pub opened : now.opened ≡ min t.opened l

pub is-within : (l : ℕ) (t now : Tally) (xs : List Change) (es : List Entry) → map entry_of xs ≡ es → now.counted ≡ min t.counted l → bytes_held (take now.counted (map entry_of xs)) ≡ now.held
    → now.opened ≡ min t.opened l → IsWithin l t now es
is-within l t now xs es e n h o = record { counted = n; held = ap (λ x. bytes_held (take now.counted x)) (sym e) ∙ h; opened = o }

pub within-same : (k l : ℕ) (t : Tally) (es : List Entry) → FrontGone k t es → t.counted ≤ l → t.opened ≤ l → IsWithin l t t es
within-same k l t es f n o = record { counted = omega (arith, n); held = f.counts.held; opened = omega (arith, o) }

cuts : (k l : ℕ) (t t' : Tally) (r made now left : Record) → FrontGone k t r.recorded → IsWithin l t t' r.recorded
    → take (min l (length r.recorded - 1)) made.recorded ≡ take (min l (length r.recorded - 1)) r.recorded → min l (length r.recorded - 1) ≤ length made.recorded - 1 → Fronted k made left → now ≡ made
    → Leaves k t' now left
cuts k l t t' r made now left f w same few b e =
    subst (λ q. Leaves k t' q left) (sym e) (record {
      gone = Front-cut k l t t' r.recorded made.recorded f w.counted w.held w.opened same few b.ends;
      view = b.rest;
    })

-- a refused call left all but the tally
pub tally-leaves : (k l : ℕ) (t t' : Tally) (r s now : Record) → FrontGone k t r.recorded → past_front k r ≡ s → IsWithin l t t' r.recorded → now ≡ r
    → Leaves k t' now s
tally-leaves k l t t' r s now f v w e =
    of-other k t' r s now (λ q. q) v (cuts k l t t' r r now (past_front k r) f w refl (omega arith) (record { ends = f.ends; rest = refl }) e)

pub cut-leaves : (k n l : ℕ) (t t' : Tally) (r s now : Record) → FrontGone k t r.recorded → past_front k r ≡ s → IsWithin l t t' r.recorded → l ≡ (k + n) - 1
    → n ≤ length s.recorded + length s.pending → now ≡ cut_to (k + n) (r.recorded ++ r.pending) r.saved → Leaves k t' now (cut_to n (s.recorded ++ s.pending) s.saved)
cut-leaves k n l t t' r s now f v w is few e =
    let all = r.recorded ++ r.pending in
    let m = min l (length r.recorded - 1) in
    let within : k + n ≤ length all =
    omega (arith, Ends-within k r.recorded f.ends, length-append r.recorded r.pending, subst (λ (q : Record). n ≤ length q.recorded + length q.pending) (sym v) few, length-drop k r.recorded) in
    of-other k t' r s now (λ (q : Record). cut_to n (q.recorded ++ q.pending) q.saved) v
    (cuts k l t t' r (cut_to (k + n) all r.saved) now (cut_to n (drop k r.recorded ++ r.pending) r.saved) f w
    (take-take m (k + n) all (omega (arith, is)) ∙ take-append-le m r.recorded r.pending (omega arith)) (omega (arith, is, length-take-le (k + n) all within)) (cut-front k n r f.ends) e)

pub truncated-leaves : (k n len l : ℕ) (t t' : Tally) (r s now : Record) → FrontGone k t r.recorded → past_front k r ≡ s → IsWithin l t t' r.recorded
    → n ≡ min len (length s.recorded) → l ≡ (k + n) - 1 → now ≡ truncated (k + n) r → Leaves k t' now (truncated len s)
truncated-leaves k n len l t t' r s now f v w least is e =
    let m = min l (length r.recorded - 1) in
    let within : k + n ≤ length r.recorded =
    omega (arith, Ends-within k r.recorded f.ends, least, ap (λ (q : Record). length q.recorded) v, length-drop k r.recorded) in
    subst (λ q. Leaves k t' now q) (ap (λ j. truncated j s) least ∙ truncated-all len s)
    (of-other k t' r s now (truncated n) v
    (cuts k l t t' r (truncated (k + n) r) now (truncated n (past_front k r)) f w (take-take m (k + n) r.recorded (omega (arith, is))) (omega (arith, is, length-take-le (k + n) r.recorded within))
    (truncated-front k n r f.ends) e))

pub closed-leaves : (k n l : ℕ) (t t' : Tally) (r s now : Record) → FrontGone k t r.recorded → past_front k r ≡ s → IsWithin l t t' r.recorded
    → l ≡ (length r.recorded - n) - 1 → now ≡ with_closed n r → Leaves k t' now (with_closed n s)
closed-leaves k n l t t' r s now f v w is e =
    let m = min l (length r.recorded - 1) in
    let keeps = times-front n m r.recorded (λ some. omega (arith, is, some)) in
    let longer = times-front n (length r.recorded - n) r.recorded (λ some. omega (arith, some)) in
    of-other k t' r s now (with_closed n) v
    (cuts k l t t' r (with_closed n r) now (with_closed n (past_front k r)) f w keeps.0 (omega (arith, is, longer.1)) (with_closed-front k n r f.ends) e)

pub dropped-leaves : (k n l : ℕ) (t t' : Tally) (r s now : Record) → FrontGone k t r.recorded → past_front k r ≡ s → IsWithin l t t' r.recorded
    → l ≡ (length r.recorded - n) - 1 → now ≡ still_waiting (end_times n r.recorded) r → Leaves k t' now (still_waiting (end_times n s.recorded) s)
dropped-leaves k n l t t' r s now f v w is e =
    let m = min l (length r.recorded - 1) in
    let keeps = times-front n m r.recorded (λ some. omega (arith, is, some)) in
    let longer = times-front n (length r.recorded - n) r.recorded (λ some. omega (arith, some)) in
    of-other k t' r s now (λ (q : Record). still_waiting (end_times n q.recorded) q) v
    (cuts k l t t' r (still_waiting (end_times n r.recorded) r) now (still_waiting (end_times n (drop k r.recorded)) (past_front k r)) f w keeps.0 (omega (arith, is, longer.1))
    (dropped-front k n r f.ends) e)

abbrev grouped : ℕ → Record → Record
grouped from q = arrived (grouped_from from q.recorded) [] q.saved

pub grouped-leaves : (k from : ℕ) (t t' : Tally) (r s now : Record) → FrontGone k t r.recorded → past_front k r ≡ s → IsWithin (k + from) t t' r.recorded
    → from ≤ length s.recorded → now ≡ arrived (grouped_from (k + from) r.recorded) [] r.saved
    → Leaves k t' now (arrived (grouped_from from s.recorded) [] s.saved)
grouped-leaves k from t t' r s now f v w few e =
    let l = k + from in
    let m = min l (length r.recorded - 1) in
    let less : from ≤ length (drop k r.recorded) = subst (λ (q : Record). from ≤ length q.recorded) (sym v) few in
    let within : l ≤ length r.recorded = omega (arith, Ends-within k r.recorded f.ends, less, length-drop k r.recorded) in
    let long : length (grouped_from l r.recorded) ≡ length r.recorded + 2 =
    omega (arith, within, length-append (take l r.recorded) (Begin ∷ (drop l r.recorded ++ End ∷ [])), length-append (drop l r.recorded) (End ∷ []), length-take-le l r.recorded within, length-drop l r.recorded) in
    of-other k t' r s now (grouped from) v
    (cuts k l t t' r (grouped l r) now (grouped from (past_front k r)) f w
    (take-append-le m (take l r.recorded) (Begin ∷ (drop l r.recorded ++ End ∷ [])) (omega (arith, length-take-le l r.recorded within)) ∙ take-take m l r.recorded (omega arith)) (omega (arith, long))
    (grouped-front k from r f.ends less) e)
