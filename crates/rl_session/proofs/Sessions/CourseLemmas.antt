-- What a course by steps makes of the line and the record.
use Rattle.rl_session.proofs.Common.{◌≡◌, ℕ, Bool, true, false, Option, Some, None, List, [], inl, inr, refl, ap, ◌∙◌, Start, Line, Moved, Taken, Record, record_step, Course, never, when, stays, goes, edits, lends, pops, tells, Came, popped, pair_step, steps_in, State}
use Rattle.rl_base.specs.declared.listeners.Refusal.TheVariants as why
use Rattle.rl_line.specs.Plan.{Step as PlanStep}
use Rattle.rl_session.specs.Commands.{stops, lent}
use Rattle.rl_session.proofs.Sessions.PairLemmas.{Done-changes, Taken-changes, cause-changes, own}
use Rattle.rl_session.proofs.Sessions.SessionLemmas.{past_telling}

-- a line's text and its record went through steps of an edit, or through none
pub record Heard (steps : List PlanStep) (old : Line) (r : Record) (text : List ℕ) (now : Record) : Type 0 where
  pub last : Line
  pub taken : Taken record_step steps old last r now
  pub text_is : text ≡ last.text

Heard-nothing : (old : Line) (r : Record) (text : List ℕ) (now : Record) → text ≡ old.text → now ≡ r → Heard [] old r text now
Heard-nothing old r text now e f = record { last = old; taken = record { line = refl; listener = f }; text_is = e }

Heard-same : (old new : State) → new ≡ old → Heard [] old.line old.pair.changes new.line.text new.pair.changes
Heard-same old new e =
    Heard-nothing old.line old.pair.changes new.line.text new.pair.changes (ap (λ (s : State). s.line.text) e) (ap (λ (s : State). s.pair.changes) e)

pub Moved-text : (place : Option ℕ) (old new : Line) (a : Bool) → Moved place old new a → new.text ≡ old.text
Moved-text None old new a m = ap (λ (l : Line). l.text) m.1
Moved-text (Some place) old new a m = ap (λ (l : Line). l.text) m.1

-- what the ring lent, and the start and the stop of a kill, are nothing to them
pub Heard-Came : (course : Course) (old new : State) (d : Came course old new) → Heard (steps_in course old new d) old.line old.pair.changes new.line.text new.pair.changes
Heard-Came never old new d = absurd d
Heard-Came (when condition course) old new d = Heard-Came course old new d.1
Heard-Came stays old new d = Heard-same old new d
Heard-Came (goes place a) old new d =
    Heard-nothing old.line old.pair.changes new.line.text new.pair.changes (Moved-text place old.line new.line a d.0) (ap (λ (s : State). s.pair.changes) d.1)
Heard-Came (edits plan a) old new d =
    let c = Done-changes plan old.line new.line old.pair new.pair a d.done in record { last = c.last; taken = c.taken; text_is = ap (λ (l : Line). l.text) c.line }
Heard-Came (stops unbegun takes plan) old new (inl e) = Heard-same old new e.1
Heard-Came (stops unbegun takes plan) old new (inr c) =
    let h = c.halted in
    let t = Taken-changes h.first old.line new.line old.pair h.middle h.taken in
    let cause = cause-changes h.middle new.pair h.next.0 why.NoMemory (own takes h.middle new.pair h.next.0 why.NoMemory h.cause) in
    record { last = new.line; taken = record { line = t.line; listener = cause ∙ t.listener }; text_is = refl }
Heard-Came (lends course) old new d = Heard-Came course (lent old) new d
Heard-Came (pops course) old new d = Heard-Came course (popped old) new d
Heard-Came (tells true course) old new d = Heard-Came course old new d
Heard-Came (tells false course) old new d =
    let begun = record old { pair = pair_step old.pair Start } in
    let inside = record new { pair = d.last } in
    past_telling (λ r now. Heard (steps_in course begun inside d.inside) old.line r new.line.text now) old.pair d.last new.pair d.ended
    (Heard-Came course begun inside d.inside)
