use Rattle.rl_session.proofs.Sessions.PerformLemmas.{redo_done}
use Rattle.rl_session.proofs.session.Session.redo.Goals as goal

pub returns : goal.returns
returns c = redo_done _ _ _ _ _ c.forget.ensures c.in-Some.ensures.1 c.reset_ring.ensures c.in-Some.ensures.0
