use Rattle.rl_session.proofs.Common.{refl}
use Rattle.rl_session.proofs.Sessions.PerformLemmas.{bars_not, done}
use Rattle.rl_session.proofs.session.Session.replace.Goals as goal

pub returns : goal.returns
returns c = λ text e. done _ _ _ _ _ _ _ _ c.forget.ensures (c.do_replace-done.ensures text e) refl c.reset_ring.ensures c.in_ok-keep_first.ensures.ok (bars_not _ _ _ c.if-replace_is_too_long.false (c.replace_is_too_long.ensures text e)) refl refl
