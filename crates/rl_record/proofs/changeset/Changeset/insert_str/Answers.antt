use Rattle.rl_record.proofs.Common.{InsertStr}
use Rattle.rl_record.proofs.Records.LevelLemmas.{AtLevel-heard}
use Rattle.rl_record.proofs.changeset.Changeset.insert_str.Goals as goal

pub invariant_of-self-2 : goal.invariant_of-self-2
invariant_of-self-2 c = AtLevel-heard (InsertStr c.args.idx c.args.string.now) _ _ _ c.in_ok-insert_str.ensures.done c.self.invariant
