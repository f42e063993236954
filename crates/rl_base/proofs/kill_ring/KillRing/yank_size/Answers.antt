use Rattle.rl_base.proofs.Common.{rules}
use Rattle.rl_base.proofs.kill_ring.KillRing.yank_size.Goals as goal

pub returns-in-Kill : goal.returns-in-Kill
returns-in-Kill c = search rules
