use Rattle.rl_base.proofs.Common.{rules}
use Rattle.rl_base.proofs.layout.PositionOrd.cmp.Goals as goal

pub returns : goal.returns
returns c = search rules
