use Rattle.rl_base.proofs.Common.{rules}
use Rattle.rl_base.proofs.kill_ring.KillRing.new.Goals as goal

pub returns : goal.returns
returns c = search rules
