use Rattle.rl_base.proofs.Common.{back_from, texts}
use Rattle.rl_base.proofs.Ring.BoundLemmas.{Kept}
use Rattle.rl_base.proofs.kill_ring.slots.Slots.fitting_len.Given as goal

abbrev pub invariant-loop-left : goal.invariant-loop-left
invariant-loop-left l = Kept l.bytes (back_from l.newest (texts l.self.list.items)) l.kept l.left

abbrev pub decreases-loop-left : goal.decreases-loop-left
decreases-loop-left l = l.kept
