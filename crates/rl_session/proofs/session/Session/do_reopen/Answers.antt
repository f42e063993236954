use Rattle.rl_record.proofs.Records.WalkLemmas.{Walks-reopened}
use Rattle.rl_session.proofs.Sessions.SessionLemmas.{AtRest-changed}
use Rattle.rl_session.proofs.session.Session.do_reopen.Goals as goal

pub invariant_of-self : goal.invariant_of-self
invariant_of-self c = AtRest-changed c.self.inside.line c.self.inside.pair _ _ c.reopen.ensures.done (Walks-reopened c.self.inside.pair.changes _ c.self.invariant.walks) c.self.invariant
