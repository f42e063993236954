use Rattle.rl_line.proofs.Common.{IsCharBoundary-start, Line, ap, arith, err_from_is_err_and, inr, length, refl, rules}
use Rattle.rl_line.proofs.Plans.EditLemmas.{update_plan-is}
use Rattle.rl_line.proofs.Plans.PlanLemmas.{Done-followed, Done-single, Halted-before}
use Rattle.rl_line.proofs.line_buffer.LineBuffer.update.Goals as goal

pub take_out-requires : goal.take_out-requires
take_out-requires g c = (omega arith, rw (← c.as_str.ensures) (IsCharBoundary-start _ c.as_str.utf8), search rules)

pub returns-in_err-take_out : goal.returns-in_err-take_out
returns-in_err-take_out g c =
    let p = err_from_is_err_and c.from_residual.result c.from_residual.ensures.1 in
    rw (p.1, p.2) (Halted-before _ _ _ _ _ _ _ _ _ _ _ (inr c.in_err-take_out.ensures.step.cause) c.in_err-take_out.ensures.step.kept
    (update_plan-is c.args.self.now c.args.text.now _ c.args.pos _ _ refl (ap length c.as_str.ensures) refl))

pub returns : goal.returns
returns g c =
    Done-followed _ _ _ _ _ _ _ _ _ _ _ _ c.in_ok-take_out.ensures.step.taken (Done-single _ _ _ _ _ _ _ _ _ c.in_ok-put_str.ensures.step.taken (ap (λ (l : Line). l.cursor) c.in_ok-put_str.ensures.line) refl)
    (update_plan-is c.args.self.now c.args.text.now c.cut_to_limit-cut.result.now c.args.pos _ c.min.result c.cut_to_limit-cut.ensures (ap length c.as_str.ensures) (search rules))
