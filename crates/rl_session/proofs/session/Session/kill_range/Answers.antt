use Rattle.rl_session.proofs.Common.{refl}
use Rattle.rl_session.proofs.Sessions.PerformLemmas.{done}
use Rattle.rl_session.proofs.session.Session.kill_range.Goals as goal

pub returns : goal.returns
returns c = done _ _ _ _ _ _ _ _ c.forget.ensures c.do_kill_range-done.ensures refl refl c.in_ok-keep_first.ensures.ok (λ barred. barred) refl refl
