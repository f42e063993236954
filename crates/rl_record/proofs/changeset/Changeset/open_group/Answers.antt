use Rattle.rl_record.proofs.Common.{AtLevel, subst, sym, ◌+◌}
use Rattle.rl_record.proofs.Records.WaitingLemmas.{AtLevel-opened}
use Rattle.rl_record.proofs.changeset.Changeset.open_group.Goals as goal

pub invariant_of-self-2 : goal.invariant_of-self-2
invariant_of-self-2 c = subst (AtLevel (c.self.inside.level + 1)) (sym c.in_ok-open_group.ensures.done) (AtLevel-opened c.self.inside.level c.self.inside.entries c.self.invariant)
