use Rattle.rl_line.proofs.Common.{err_from_is_err_and, refl, rules}
use Rattle.rl_line.proofs.Plans.EditLemmas.{yank_plan-some}
use Rattle.rl_line.proofs.Plans.PlanLemmas.{Halted-single}
use Rattle.rl_line.proofs.line_buffer.LineBuffer.yank.Goals as goal

pub returns-in_err-put_copies : goal.returns-in_err-put_copies
returns-in_err-put_copies g c =
    let p = err_from_is_err_and c.from_residual.result c.from_residual.ensures.1 in
    rw (p.1, p.2) (Halted-single _ _ _ _ _ _ _ _ _ _ _ c.in_err-put_copies.ensures.cause c.in_err-put_copies.ensures.kept
    (yank_plan-some c.args.self.now c.args.text.now c.args.n _ refl (search rules) (search rules)))
