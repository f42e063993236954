use Rattle.rl_record.proofs.Common.{FrontGone, Record, refl, subst, sym}
use Rattle.rl_record.proofs.Records.TallyLemmas.{gone-up}
use Rattle.rl_record.proofs.recent.Recent.move_up.Goals as goal

pub invariant_of-self : goal.invariant_of-self
invariant_of-self c =
    subst (λ (r : Record). FrontGone 0 (record { counted = c.saturating_sub-self-inside.result; held = c.self.inside.tally.held; opened = 0 }) r.recorded) (sym c.drop_first.ensures)
    (gone-up c.self.inside.gone c.self.inside.tally (record { counted = c.saturating_sub-self-inside.result; held = c.self.inside.tally.held; opened = 0 }) c.self.inside.all.recorded c.self.invariant
    c.saturating_sub-self-inside.ensures refl refl)
