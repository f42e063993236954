use Rattle.rl_record.proofs.Records.UnitLawLemmas.{unit-heard}
use Rattle.rl_record.proofs.laws.what_was_heard_becomes_the_last_unit.Goals as goal

pub returns-clause-unit : goal.returns-clause-unit
returns-clause-unit c = unit-heard
