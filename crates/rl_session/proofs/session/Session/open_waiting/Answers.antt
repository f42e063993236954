use Rattle.rl_record.proofs.Records.WaitingLemmas.{Walks-opened}
use Rattle.rl_session.proofs.Sessions.SessionLemmas.{AtRest-changed}
use Rattle.rl_session.proofs.session.Session.open_waiting.Goals as goal

pub invariant_of-self-2 : goal.invariant_of-self-2
invariant_of-self-2 c = AtRest-changed c.self.inside.line c.self.inside.pair _ _ c.in_ok-open_group.ensures.done.1 (Walks-opened c.self.inside.pair.changes _ c.self.invariant.walks) c.self.invariant
