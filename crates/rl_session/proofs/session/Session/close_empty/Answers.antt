use Rattle.rl_record.proofs.Records.WaitingLemmas.{Walks-dropped}
use Rattle.rl_session.proofs.Sessions.SessionLemmas.{AtRest-tried}
use Rattle.rl_session.proofs.session.Session.close_empty.Goals as goal

pub invariant_of-self : goal.invariant_of-self
invariant_of-self c =
    AtRest-tried c.self.inside.line c.self.inside.pair _ _ c.close_empty.result c.close_empty.ensures.done c.close_empty.ensures.none
    (Walks-dropped c.args.count c.self.inside.pair.changes _ c.self.invariant.walks) c.self.invariant
