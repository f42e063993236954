use Rattle.rl_session.proofs.Sessions.PerformLemmas.{deleted}
use Rattle.rl_session.proofs.session.Session.delete_by.Goals as goal

pub returns : goal.returns
returns c = deleted c.args.movement.now _ _ _ _ _ _ c.requires c.forget.ensures c.do_delete_by-done.ensures c.reset_ring.ensures c.in_ok-keep_first.ensures.ok
