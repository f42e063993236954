use Rattle.rl_base.proofs.Common.{rules}
use Rattle.rl_base.proofs.kill_ring.KillRingDeleteListener.delete.Goals as goal

pub returns-in_ok-kill-in-Forward-clause-done : goal.returns-in_ok-kill-in-Forward-clause-done
returns-in_ok-kill-in-Forward-clause-done c = search rules
