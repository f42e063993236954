use Rattle.rl_record.proofs.Common.{Record, ap, arith, oldest_is_open, refl, units, ◌∙◌}
use Rattle.rl_record.proofs.Records.TallyLemmas.{tally-open}
use Rattle.rl_record.proofs.recent.Recent.note_open.Goals as goal

pub invariant_of-self : goal.invariant_of-self
invariant_of-self c =
    tally-open c.self.inside.gone c.self.inside.tally _ c.self.inside.all.recorded c.self.invariant refl refl (omega (arith, c.saturating_sub-self-inside.ensures, c.len.ensures.len))
    (ap (λ (r : Record). oldest_is_open (units r.recorded)) c.self.view_is ∙ c.requires)
