use Rattle.rl_record.proofs.Records.WalkLemmas.{Walks-begun}
use Rattle.rl_session.proofs.Sessions.SessionLemmas.{AtRest-changed}
use Rattle.rl_session.proofs.session.Session.do_begin.Goals as goal

pub invariant_of-self-2 : goal.invariant_of-self-2
invariant_of-self-2 c = AtRest-changed c.self.inside.line c.self.inside.pair _ _ c.in_ok-begin.ensures.done.1 (Walks-begun c.self.inside.pair.changes _ c.self.invariant.walks) c.self.invariant
