use Rattle.rl_session.proofs.Common.{refl}
use Rattle.rl_session.proofs.Sessions.PerformLemmas.{done_as_unit, fits}
use Rattle.rl_session.proofs.session.Session.indent_lines.Goals as goal

pub returns : goal.returns
returns c = done_as_unit _ _ _ _ _ _ _ _ _ _ _ c.forget.ensures c.unite.ensures.united c.unite.ensures.before c.do_indent-done.ensures refl c.set_apart-start.ensures.apart c.set_apart-start.ensures.start c.reset_ring.ensures c.in_ok-keep_first.ensures.ok (rw (← c.self.view_is) (fits c.indent_fits.ensures c.if-not-indent_fits.false)) refl
