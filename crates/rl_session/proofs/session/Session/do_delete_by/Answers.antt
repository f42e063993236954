use Rattle.rl_session.proofs.Common.{kill_plan, nothing_more}
use Rattle.rl_session.proofs.Sessions.IdleLemmas.{NoneStarts-kill}
use Rattle.rl_session.proofs.Sessions.SessionLemmas.{AtRest-edit}
use Rattle.rl_session.proofs.session.Session.do_delete_by.Goals as goal

pub invariant_of-self : goal.invariant_of-self
invariant_of-self c =
    AtRest-edit nothing_more (kill_plan c.self.inside.line c.args.movement.now) c.self.inside.pair c.delete_by.new.listener c.self.inside.line c.delete_by.new.self c.delete_by.result
    (rw (← c.self.view_is) at c.stands.ensures.cursor) (NoneStarts-kill c.self.inside.line c.args.movement.now) c.delete_by.ensures c.self.invariant
