use Rattle.rl_session.proofs.Common.{rules}
use Rattle.rl_session.proofs.print.is_special.Goals as goal

pub returns-then-spaces : goal.returns-then-spaces
returns-then-spaces c = search rules

pub returns-else-spaces : goal.returns-else-spaces
returns-else-spaces c = search rules
