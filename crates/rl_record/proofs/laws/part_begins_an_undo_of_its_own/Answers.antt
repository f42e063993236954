use Rattle.rl_record.proofs.Records.PartLemmas.{parted-unit}
use Rattle.rl_record.proofs.laws.part_begins_an_undo_of_its_own.Goals as goal

pub returns-clause-undo : goal.returns-clause-undo
returns-clause-undo c = parted-unit
