use Rattle.rl_base.proofs.Common.{◌≤◌, Ring, arith, length, subst, sum_by, sym}
use Rattle.rl_base.proofs.Ring.BoundLemmas.{within-whole}
use Rattle.rl_base.proofs.kill_ring.KillRing.forget.Goals as goal

pub returns-else-bytes : goal.returns-else-bytes
returns-else-bytes c =
    sym (within-whole c.args.bytes c.args.self.now
    (subst (λ (r : Ring). sum_by length r.slots ≤ c.args.bytes) c.self.view_is (omega (arith, c.if-bytes.false, c.bytes.ensures))))
