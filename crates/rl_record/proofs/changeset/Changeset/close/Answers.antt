use Rattle.rl_record.proofs.Common.{AtLevel, Record, level, subst, sym, ◌-◌, ◌≤◌}
use Rattle.rl_record.proofs.Records.LevelLemmas.{AtLevel-closed}
use Rattle.rl_record.proofs.changeset.Changeset.close.Goals as goal

pub invariant_of-self-2 : goal.invariant_of-self-2
invariant_of-self-2 c =
    subst (AtLevel (c.self.inside.level - c.args.count)) (sym c.in_ok-added.ensures.done.1)
    (AtLevel-closed c.args.count _ _ (subst (λ (r : Record). c.args.count ≤ level r.recorded) (sym c.self.view_is) c.requires) c.self.invariant)
