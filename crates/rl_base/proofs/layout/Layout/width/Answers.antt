use Rattle.rl_base.proofs.Common.{rules}
use Rattle.rl_base.proofs.layout.Layout.width.Goals as goal

pub returns : goal.returns
returns c = search rules
