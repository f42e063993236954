use Rattle.rl_record.proofs.Common.{Delete, Forward}
use Rattle.rl_record.proofs.Records.LevelLemmas.{AtLevel-heard}
use Rattle.rl_record.proofs.changeset.Changeset.delete.Goals as goal

pub invariant_of-self-2 : goal.invariant_of-self-2
invariant_of-self-2 c = AtLevel-heard (Delete c.args.idx c.args.string.now Forward) _ _ _ c.in_ok-delete.ensures.done c.self.invariant
