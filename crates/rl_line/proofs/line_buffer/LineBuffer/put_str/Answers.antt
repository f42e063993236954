use Rattle.rl_line.proofs.Common.{Line, ap, arith, err_from_is_err_and, inl, length, refl, ◌∙◌}
use Rattle.rl_line.proofs.Lines.RoomyLemmas.{HasRoom-inserted}
use Rattle.rl_line.proofs.Plans.PlanLemmas.{StepOutcome-with_room}
use Rattle.rl_line.proofs.line_buffer.LineBuffer.put_str.Goals as goal

pub returns-in_err-find_room-clause-step : goal.returns-in_err-find_room-clause-step
returns-in_err-find_room-clause-step g c =
    let p = err_from_is_err_and c.from_residual.result c.from_residual.ensures.1 in
    let e = c.in_err-find_room.ensures.err in
    rw (p.1, p.2) (record { kept = c.find_room.ensures.line ∙ c.self.view_is; cause = inl (e.0, refl, omega (arith, e.1)) })

pub insertion_step-requires-clause-room : goal.insertion_step-requires-clause-room
insertion_step-requires-clause-room g c =
    HasRoom-inserted _ c.args.text.now c.args.idx c.find_room.new.self (omega (arith, c.in_ok-find_room.ensures.room, ap (λ (l : Line). length l.text) c.find_room.ensures.line))

pub returns-clause-step : goal.returns-clause-step
returns-clause-step g c = StepOutcome-with_room _ g.L.DeleteListener.refused _ _ _ _ _ _ (rw (c.find_room.ensures.line ∙ c.self.view_is) at c.insertion_step.ensures.step)
