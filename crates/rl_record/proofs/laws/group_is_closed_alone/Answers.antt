use Rattle.rl_record.proofs.Records.EndLemmas.{alone-answer, alone-level, alone-nothing, alone-unit}
use Rattle.rl_record.proofs.laws.group_is_closed_alone.Goals as goal

pub returns-clause-answer : goal.returns-clause-answer
returns-clause-answer c = alone-answer

pub returns-clause-unit : goal.returns-clause-unit
returns-clause-unit c = alone-unit

pub returns-clause-nothing : goal.returns-clause-nothing
returns-clause-nothing c = alone-nothing

pub returns-clause-level : goal.returns-clause-level
returns-clause-level c = alone-level
