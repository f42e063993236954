use Rattle.rl_session.proofs.Common.{Record, Ring, Walks, ap, subst, sym, ◌∙◌}
use Rattle.rl_base.proofs.Ring.BoundLemmas.{killing-within}
use Rattle.rl_record.proofs.Records.ForgettingLemmas.{Walks-forgotten}
use Rattle.rl_session.proofs.session.Session.forget.Goals as goal

pub invariant_of-self : goal.invariant_of-self
invariant_of-self c =
    let bound = c.self.inside.options.bound in let p = c.self.inside.pair in let text = c.self.inside.line.text in record {
      walks = subst (λ (r : Record). Walks r text) (sym c.forget.ensures) (Walks-forgotten bound.entries bound.bytes p.changes text c.self.invariant.walks);
      idle = ap (λ (r : Ring). r.killing) c.forget-2.ensures ∙ killing-within bound.ring_bytes p.ring ∙ c.self.invariant.idle;
      grows_not = c.self.invariant.grows_not;
    }
