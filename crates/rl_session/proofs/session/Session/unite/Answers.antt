use Rattle.rl_record.proofs.Records.UnitingLemmas.{Walks-united}
use Rattle.rl_session.proofs.Sessions.SessionLemmas.{AtRest-kept}
use Rattle.rl_session.proofs.session.Session.unite.Goals as goal

pub invariant_of-self : goal.invariant_of-self
invariant_of-self c =
    AtRest-kept _ c.self.inside.line c.self.inside.pair _ _ c.unite.result c.unite.ensures.ok c.unite.ensures.err (λ _ e. e.1)
    (Walks-united c.args.start c.self.inside.pair.changes _ c.requires c.self.invariant.walks) c.self.invariant
