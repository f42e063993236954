use Rattle.rl_line.proofs.Common.{refl, room_by_step}
use Rattle.rl_line.proofs.Plans.PlanLemmas.{Outcome-single}
use Rattle.rl_line.proofs.line_buffer.LineBuffer.replace.Goals as goal

pub returns : goal.returns
returns g c = Outcome-single _ g.L.DeleteListener.refused room_by_step _ _ _ _ _ _ _ refl c.put_instead.ensures.step
