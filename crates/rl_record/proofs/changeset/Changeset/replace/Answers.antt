use Rattle.rl_record.proofs.Common.{Replace}
use Rattle.rl_record.proofs.Records.LevelLemmas.{AtLevel-heard}
use Rattle.rl_record.proofs.changeset.Changeset.replace.Goals as goal

pub invariant_of-self-2 : goal.invariant_of-self-2
invariant_of-self-2 c = AtLevel-heard (Replace c.args.idx c.args.old.now c.args.new.now) _ _ _ c.in_ok-replace.ensures.done c.self.invariant
