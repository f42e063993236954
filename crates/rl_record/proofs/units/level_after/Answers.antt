use Rattle.rl_record.proofs.Common.{rules}
use Rattle.rl_record.proofs.units.level_after.Goals as goal

pub returns-in-End-clause-level : goal.returns-in-End-clause-level
returns-in-End-clause-level c = search rules
