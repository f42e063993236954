use Rattle.rl_record.proofs.Common.{rules}
use Rattle.rl_record.proofs.joining.join_replacement.Goals as goal

pub returns-in-Ok-clause-ok : goal.returns-in-Ok-clause-ok
returns-in-Ok-clause-ok c = search rules
