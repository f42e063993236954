use Rattle.rl_record.specs.Units.{level}
use Rattle.rl_record.proofs.Records.WalkLemmas.{Walks-closed}
use Rattle.rl_session.proofs.Sessions.SessionLemmas.{AtRest-changed}
use Rattle.rl_session.proofs.session.Session.do_end.Goals as goal

pub invariant_of-self-2 : goal.invariant_of-self-2
invariant_of-self-2 c =
    let r = c.self.inside.pair.changes in
    AtRest-changed c.self.inside.line c.self.inside.pair _ _ c.in_ok-end.ensures.done.1 (Walks-closed (level r.recorded) r _ c.self.invariant.walks) c.self.invariant
