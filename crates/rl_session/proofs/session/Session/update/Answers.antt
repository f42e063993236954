use Rattle.rl_session.proofs.Common.{refl}
use Rattle.rl_session.proofs.Sessions.PerformLemmas.{bars_not, done_as_unit}
use Rattle.rl_session.proofs.session.Session.update.Goals as goal

pub returns : goal.returns
returns c = λ text e. done_as_unit _ _ _ _ _ _ _ _ _ _ _ c.forget.ensures c.unite.ensures.united c.unite.ensures.before (c.do_update-done.ensures text e) refl c.set_apart-start.ensures.apart c.set_apart-start.ensures.start c.reset_ring.ensures c.in_ok-keep_first.ensures.ok (bars_not _ _ _ c.if-update_is_too_long.false (c.update_is_too_long.ensures text e)) refl
