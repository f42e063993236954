use Rattle.rl_record.proofs.Common.{AtLevel, subst, sym}
use Rattle.rl_record.proofs.Records.ForgettingLemmas.{AtLevel-forgotten}
use Rattle.rl_record.proofs.changeset.Changeset.forget_oldest.Goals as goal

pub invariant_of-self : goal.invariant_of-self
invariant_of-self c = subst (AtLevel c.self.inside.level) (sym c.forget.ensures) (AtLevel-forgotten c.args.entries c.args.bytes c.self.inside.level c.self.inside.entries c.self.invariant)
