use Rattle.rl_session.proofs.Common.{subst, IsCharBoundary}
use Rattle.rl_session.proofs.Sessions.SessionLemmas.{Follows-Walks}
use Rattle.rl_session.proofs.session.Session.follows.Goals as goal

pub returns : goal.returns
returns c =
    let line = c.self.inside.line in
    rw (← c.self.view_is) (Follows-Walks c.self.inside.pair.changes line (subst (IsCharBoundary line.text) c.pos.ensures.place c.pos.ensures.boundary) c.self.invariant.walks)
