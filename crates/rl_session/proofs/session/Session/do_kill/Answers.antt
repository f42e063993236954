use Rattle.rl_session.proofs.Common.{Err, Ok, err_from_is_err_and, kill_plan, is_by_characters, refl}
use Rattle.rl_session.proofs.Sessions.IdleLemmas.{NoneStarts-kill}
use Rattle.rl_session.proofs.Sessions.ReplyLemmas.{Kill-replied}
use Rattle.rl_session.proofs.Sessions.SessionLemmas.{AtRest-told}
use Rattle.rl_session.proofs.session.Session.do_kill.Goals as goal

pub invariant_of-self : goal.invariant_of-self
invariant_of-self c =
    AtRest-told (is_by_characters c.args.movement.now) (kill_plan c.self.inside.line c.args.movement.now) c.self.inside.pair c.kill.new.listener c.self.inside.line c.kill.new.self c.kill.result (rw (← c.self.view_is) at c.stands.ensures.cursor) (NoneStarts-kill c.self.inside.line c.args.movement.now) c.kill.ensures c.self.invariant

pub invariant_of-self-2 : goal.invariant_of-self-2
invariant_of-self-2 c =
    AtRest-told (is_by_characters c.args.movement.now) (kill_plan c.self.inside.line c.args.movement.now) c.self.inside.pair c.kill.new.listener c.self.inside.line c.kill.new.self c.kill.result (rw (← c.self.view_is) at c.stands.ensures.cursor) (NoneStarts-kill c.self.inside.line c.args.movement.now) c.kill.ensures c.self.invariant

pub returns-in_err-kill : goal.returns-in_err-kill
returns-in_err-kill c =
    let p = err_from_is_err_and c.from_residual.result c.from_residual.ensures.1 in
    rw (p.1, p.2) (Kill-replied c.args.movement.now _ (Err c.in_err-kill.field-0.0) c.self.view_is refl c.in_err-kill.ensures)

pub returns : goal.returns
returns c = Kill-replied c.args.movement.now _ (Ok c.in_ok-kill.field-0) c.self.view_is refl c.in_ok-kill.ensures
