-- What rows report, applied to the text before them, gives the text after them.
use Rattle.rl_session.proofs.Common.{◌≡◌, ℕ, List, [], ◌∷◌, Option, Some, None, refl, sym, ap, ◌∙◌, map, option_and_then, reverse, Event, Replace, replay, Entry, Changed, events_ahead, inverse, events_of, cursor_after, steps_ahead, last_of, redo_of, Effect, by_steps, takes_back, puts_again, Became, effect, readied, Row, Leads, Run, reports, reports_of, steps_done, steps_in, State, Command, Reply, arith}
use Rattle.rl_base.specs.Event.{apply}
use Rattle.rl_line.proofs.Plans.PlanLemmas.{after-replay}
use Rattle.rl_line.proofs.Changes.InverseLemmas.{events-append}
use Rattle.rl_line.proofs.Changes.GoingLemmas.{line_back-ahead}
use Rattle.rl_line.proofs.Changes.BackLemmas.{line_ahead-replay}
use Rattle.rl_session.specs.Commands.{keeps, gives_up}
use Rattle.rl_session.proofs.Sessions.CourseLemmas.{Heard-Came}
use Rattle.rl_record.specs.Units.{open_group}

then_same : (xs ys : List Event) (o : Option (List ℕ)) → ((t : List ℕ) → replay xs t ≡ replay ys t) → option_and_then (replay xs) o ≡ option_and_then (replay ys) o
then_same xs ys None same = refl
then_same xs ys (Some t) same = same t

-- a mark changes no text, so it is no matter that it is no step
replay-ahead : (cursor : ℕ) (es : List Entry) (text : List ℕ) → replay (events_of (steps_ahead cursor es)) text ≡ replay (events_ahead es) text
unfolding apply
replay-ahead cursor [] text = refl
replay-ahead cursor (Changed kind swap ∷ es) text =
    then_same (events_of (steps_ahead (cursor_after cursor (Changed kind swap)) es)) (events_ahead es) (apply (Replace swap.place swap.old swap.new) text)
    (λ t. replay-ahead (cursor_after cursor (Changed kind swap)) es t)
replay-ahead cursor (mark ∷ es) text = replay-ahead cursor es text

reported : (effect : Effect) (old new : State) (d : Became effect old new) → replay (events_of (steps_done effect old new d)) old.line.text ≡ Some new.line.text
reported (by_steps course) old new d =
    let h = Heard-Came course old new d in after-replay (steps_in course old new d) old.line h.last h.taken.line ∙ ap (λ t. Some t) (sym h.text_is)
reported (keeps text) old new d = ap (λ (s : State). Some s.line.text) (sym d)
reported (takes_back n a) old new d =
    let back = last_of n old.pair.changes.recorded in
    let ahead = map inverse (reverse back) in
    replay-ahead old.line.cursor ahead old.line.text ∙ line_ahead-replay ahead old.line new.line (line_back-ahead back old.line ∙ d.0.line_is)
reported (gives_up a) old new d =
    let ahead = map inverse (reverse (open_group old.pair.changes.recorded)) in
    replay-ahead old.line.cursor ahead old.line.text ∙ line_ahead-replay ahead old.line new.line (line_back-ahead (open_group old.pair.changes.recorded) old.line ∙ d.0.line_is)
reported (puts_again a) old new d =
    let ahead = redo_of old.pair.changes.pending in replay-ahead old.line.cursor ahead old.line.text ∙ line_ahead-replay ahead old.line new.line d.0.line_is
reported _ old new d = ap (λ (s : State). Some s.line.text) (sym d.1)

-- the ring's resets change no text
pub reported-row : (row : Row) → replay (reports row) row.before.line.text ≡ Some row.after.line.text
reported-row row =
    let begun = readied row.command row.before in
    reported (effect begun row.command row.reply) begun row.step.left row.step.does ∙ ap (λ (s : State). Some s.line.text) (sym row.step.settles)

reported-rows : (rows : List Row) (old new : State) → Leads old rows new → replay (reports_of rows) old.line.text ≡ Some new.line.text
reported-rows [] old new l = ap (λ (s : State). Some s.line.text) (sym l)
reported-rows (row ∷ rows) old new l = grind (arith, events-append, reported-row, (reported-rows rows row.after new l.1))

pub reported-run : (old new : State) (commands : List Command) (replies : List Reply) (run : Run old commands replies new)
    → replay (reports_of run.rows) old.line.text ≡ Some new.line.text
reported-run old new commands replies run = reported-rows run.rows old new run.leads
