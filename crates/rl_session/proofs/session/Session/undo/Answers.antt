use Rattle.rl_session.proofs.Sessions.PerformLemmas.{undo_done}
use Rattle.rl_session.proofs.session.Session.undo.Goals as goal

pub returns : goal.returns
returns c =
    let within = c.in-Some-undo_within.ensures in undo_done _ _ _ _ _ _ _ c.forget.ensures within.1 c.reset_ring.ensures c.in-Some.ensures.0 c.in-Some.ensures.1 within.0
