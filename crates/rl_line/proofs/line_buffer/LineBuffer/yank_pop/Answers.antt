use Rattle.rl_line.proofs.Common.{err_from_is_err_and, inr, refl, rules}
use Rattle.rl_line.proofs.Plans.EditLemmas.{yank_pop_plan-is}
use Rattle.rl_line.proofs.Plans.PlanLemmas.{Halted-before, Outcome-followed}
use Rattle.rl_line.proofs.line_buffer.LineBuffer.yank_pop.Goals as goal

pub returns-in_err-take_out : goal.returns-in_err-take_out
returns-in_err-take_out g c =
    let p = err_from_is_err_and c.from_residual.result c.from_residual.ensures.1 in
    rw (p.1, p.2) (Halted-before _ _ _ _ _ _ _ _ _ _ _ (inr c.in_err-take_out.ensures.step.cause) c.in_err-take_out.ensures.step.kept
    (yank_pop_plan-is c.args.self.now _ c.args.yank_size _ _ c.args.text.now (search rules) refl refl))

pub returns : goal.returns
returns g c =
    Outcome-followed _ _ _ _ _ _ _ _ _ _ _ _ c.in_ok-take_out.ensures.step.taken (yank_pop_plan-is c.args.self.now _ c.args.yank_size _ _ c.args.text.now (search rules) refl (search rules)) c.yank.ensures
