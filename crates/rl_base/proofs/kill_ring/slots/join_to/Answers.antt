use Rattle.rl_base.proofs.Common.{rules}
use Rattle.rl_base.proofs.kill_ring.slots.join_to.Goals as goal

pub returns-in-Prepend-clause-ok : goal.returns-in-Prepend-clause-ok
returns-in-Prepend-clause-ok c = search rules
