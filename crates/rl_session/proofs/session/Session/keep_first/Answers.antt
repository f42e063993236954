use Rattle.rl_session.proofs.Common.{◌∙◌, ap, sym, State}
use Rattle.rl_session.proofs.Sessions.PerformLemmas.{has_kept}
use Rattle.rl_session.proofs.session.Session.keep_first.Goals as goal

pub returns-in_ok-done-clause-ok : goal.returns-in_ok-done-clause-ok
returns-in_ok-done-clause-ok c =
    has_kept _ _ _ _ _ (sym (ap (λ (s : State). s.options.keeps) c.self.view_is) ∙ c.if-self.true) c.ends.ensures c.do_keep_undone-done.ensures c.in_ok-done.was
