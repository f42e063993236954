use Rattle.rl_line.proofs.Common.{Line, ap, ap₂, end_of_cluster, length, pull_back_plan, refl, remove_range, rules, sym, text_in, ℕ, ◌+◌, ◌∙◌, ◌≡◌}
use Rattle.rl_line.proofs.Lines.RoomyLemmas.{HasRoom-moved}
use Rattle.rl_line.proofs.Plans.PlanLemmas.{Done-followed, Done-single}
use Rattle.rl_line.proofs.Plans.TranspositionLemmas.{pull_back_plan-is}
use Rattle.rl_line.proofs.line_buffer.LineBuffer.pull_back.Goals as goal

pub insertion_step-requires-clause-room : goal.insertion_step-requires-clause-room
insertion_step-requires-clause-room g c =
    let d = c.in_ok-deletion_step.ensures in
    let moved = c.as_str-2.ensures.value ∙ c.in_ok-moved.ensures.ok ∙ ap (λ (l : Line). text_in l c.args.after) (sym c.self.view_is) in
    HasRoom-moved c.self.inside.line.line.text _ _ c.args.after.start c.args.after.end c.args.front c.deletion_step.new.self c.requires.order.1 (rw c.self.view_is c.requires.end.0) (ap (λ (l : Line). l.text) d.line) moved d.room.back

pub returns-clause-outcome : goal.returns-clause-outcome
returns-clause-outcome g c =
    let d = c.in_ok-deletion_step.ensures in
    let e = c.in_ok-insertion_step.ensures in
    let old = c.args.self.now in
    let x = c.as_str-2.result.now in
    let stop = c.len.result + c.end_of_cluster-next.result in
    let moved : x ≡ text_in old c.args.after = c.as_str-2.ensures.value ∙ c.in_ok-moved.ensures.ok in
    let left : c.as_str.result.now ≡ remove_range old.text c.args.after.start c.args.after.end = c.as_str.ensures.value ∙ ap (λ (l : Line). l.text) (rw c.self.view_is at d.line) in
    let at : stop ≡ length x + end_of_cluster (remove_range old.text c.args.after.start c.args.after.end) c.args.front =
    ap₂ (λ (a b : ℕ). a + b) (search rules) (c.end_of_cluster-next.ensures.value ∙ ap (λ t. end_of_cluster t c.args.front) left) in
    Done-followed _ (pull_back_plan old c.args.front c.args.after) _ _ _ old _ _ _ _ _ _ (rw c.self.view_is at d.step.taken)
    (Done-single _ _ _ stop _ _ _ _ _ e.step.taken (ap (λ (l : Line). l.cursor) e.line) refl)
    (pull_back_plan-is old c.args.front c.args.after x stop moved at)
