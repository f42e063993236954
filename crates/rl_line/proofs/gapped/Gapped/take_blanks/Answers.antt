use Rattle.rl_line.proofs.Common.{Delete, Forward, Line, List, ap, drop, err_from_is_err_and, length, line_plan, pulled, single, slice_range, sym, text_of_line, true, ℕ, ◌+◌, ◌-◌, ◌∙◌, ◌≡◌}
use Rattle.rl_line.proofs.Plans.IndentLemmas.{line_plan-dedent}
use Rattle.rl_line.proofs.Plans.PlanLemmas.{Completed-single, Halted-single}
use Rattle.rl_line.proofs.gapped.Gapped.take_blanks.Given.{Over}
use Rattle.rl_line.proofs.gapped.Gapped.take_blanks.Goals.{After-pulled-cursor}
use Rattle.rl_line.proofs.gapped.Gapped.take_blanks.Goals as goal

-- the one step of the plan
planned : (g : Over) (c : After-pulled-cursor g) → line_plan true c.args.amount (text_of_line (drop c.args.at c.args.self.now.roomy.line.text) 0) c.args.at c.args.self.now.roomy.line.cursor
    ≡ single (Delete c.args.at (slice_range c.args.self.now.roomy.line.text c.args.at (c.args.at + c.blanks-gone.result)) Forward) c.pulled-cursor.result (c.args.at + length c.line_from-text.result.now - c.blanks-gone.result)
planned g c =
    let line = c.args.self.now.roomy.line in
    ap (λ (t : List ℕ). line_plan true c.args.amount t c.args.at line.cursor) (sym c.line_from-text.ensures.text)
    ∙ line_plan-dedent line.text c.args.at c.args.amount c.blanks-gone.result line.cursor c.pulled-cursor.result c.line_from-text.result.now c.line_from-text.ensures.is c.blanks-gone.ensures.len
    (c.pulled-cursor.ensures ∙ ap (pulled c.args.at c.blanks-gone.result) c.pos.ensures.place)

pub returns-in_err-deletion_step-clause-steps : goal.returns-in_err-deletion_step-clause-steps
returns-in_err-deletion_step-clause-steps g c =
    let p = err_from_is_err_and c.from_residual.result c.from_residual.ensures.1 in
    rw (p.1, p.2) (Halted-single _ _ _ _ _ _ _ _ _ _ _ c.in_err-deletion_step.ensures.step.cause c.in_err-deletion_step.ensures.step.kept
    (planned g (goal.at.returns-in_err-deletion_step-clause-steps g c).After-pulled-cursor))

pub returns-clause-steps : goal.returns-clause-steps
returns-clause-steps g c =
    Completed-single _ _ _ _ _ _ _ _ _ c.in_ok-deletion_step.ensures.step.taken (ap (λ (l : Line). l.cursor) c.in_ok-deletion_step.ensures.line)
    (planned g (goal.at.returns-clause-steps g c).After-pulled-cursor)
