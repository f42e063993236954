use Rattle.rl_record.proofs.Common.{AtLevel, subst, sym}
use Rattle.rl_record.proofs.Records.RoundLemmas.{AtLevel-round}
use Rattle.rl_record.proofs.changeset.Changeset.keep_undone.Goals as goal

pub invariant_of-self-2 : goal.invariant_of-self-2
invariant_of-self-2 c = subst (AtLevel c.self.inside.level) (sym c.in_ok-keep_undone.ensures.done) (AtLevel-round c.self.inside.level c.self.inside.entries c.self.invariant)
