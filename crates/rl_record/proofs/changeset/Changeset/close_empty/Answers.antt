use Rattle.rl_record.proofs.Common.{AtLevel, Record, level, subst, sym, ◌-◌, ◌≤◌}
use Rattle.rl_record.proofs.Records.WaitingLemmas.{AtLevel-dropped}
use Rattle.rl_record.proofs.changeset.Changeset.close_empty.Goals as goal

pub invariant_of-self : goal.invariant_of-self
invariant_of-self c =
    subst (AtLevel (c.self.inside.level - c.args.count)) (sym c.drop_begins.ensures)
    (AtLevel-dropped c.args.count c.self.inside.level c.self.inside.entries (subst (λ (r : Record). c.args.count ≤ level r.recorded) (sym c.self.view_is) c.requires) c.self.invariant)
