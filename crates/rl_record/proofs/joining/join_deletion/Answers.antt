use Rattle.rl_record.proofs.Common.{rules}
use Rattle.rl_record.proofs.joining.join_deletion.Goals as goal

pub returns-in_ok-taken-in-Delete-clause-ok : goal.returns-in_ok-taken-in-Delete-clause-ok
returns-in_ok-taken-in-Delete-clause-ok c = search rules
