use Rattle.rl_session.proofs.Common.{room_by_step}
use Rattle.rl_session.proofs.Sessions.SessionLemmas.{AtRest-edit}
use Rattle.rl_session.proofs.session.Session.do_update.Goals as goal

pub invariant_of-self-2 : goal.invariant_of-self-2
invariant_of-self-2 c =
    AtRest-edit room_by_step _ c.self.inside.pair c.update.new.listener c.self.inside.line c.update.new.self c.update.result (rw (← c.self.view_is) at c.stands.ensures.cursor) (tt, (tt, tt)) c.update.ensures c.self.invariant
