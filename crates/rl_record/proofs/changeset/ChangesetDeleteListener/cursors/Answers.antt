use Rattle.rl_record.proofs.Common.{Cursors}
use Rattle.rl_record.proofs.Records.LevelLemmas.{AtLevel-heard}
use Rattle.rl_record.proofs.changeset.ChangesetDeleteListener.cursors.Goals as goal

pub invariant_of-self : goal.invariant_of-self
invariant_of-self c = AtLevel-heard (Cursors c.args.before c.args.after) _ _ _ c.tell.ensures c.self.invariant
