use Rattle.rl_session.proofs.Common.{refl}
use Rattle.rl_session.proofs.Sessions.PerformLemmas.{done, short}
use Rattle.rl_session.proofs.session.Session.paste.Goals as goal

pub returns : goal.returns
returns c = λ text e. done _ _ _ _ _ _ _ _ c.forget.ensures (c.do_paste-done.ensures text e) refl c.reset_ring.ensures c.in_ok-keep_first.ensures.ok (rw (← c.self.view_is, e) (short c.is_too_long.ensures c.if-is_too_long.false)) refl refl
