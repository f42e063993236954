use Rattle.rl_session.proofs.Common.{nothing_more}
use Rattle.rl_session.proofs.Sessions.SessionLemmas.{AtRest-edit}
use Rattle.rl_session.proofs.session.Session.do_delete_range.Goals as goal

pub invariant_of-self : goal.invariant_of-self
invariant_of-self c =
    AtRest-edit nothing_more _ c.self.inside.pair c.delete_range.new.listener c.self.inside.line c.delete_range.new.self c.delete_range.result
    (rw (← c.self.view_is) at c.stands.ensures.cursor) (tt, tt) c.delete_range.ensures c.self.invariant
