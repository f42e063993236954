use Rattle.rl_base.specs.declared.motion.Movement.TheVariants.{BackwardChar}
use Rattle.rl_session.proofs.Common.{kill_plan, nothing_more}
use Rattle.rl_session.proofs.Sessions.IdleLemmas.{NoneStarts-kill}
use Rattle.rl_session.proofs.Sessions.SessionLemmas.{AtRest-edit}
use Rattle.rl_session.proofs.session.Session.do_backspace.Goals as goal

pub invariant_of-self : goal.invariant_of-self
invariant_of-self c =
    AtRest-edit nothing_more (kill_plan c.self.inside.line (BackwardChar c.args.n)) c.self.inside.pair c.backspace.new.listener c.self.inside.line c.backspace.new.self c.backspace.result
    (rw (← c.self.view_is) at c.stands.ensures.cursor) (NoneStarts-kill c.self.inside.line (BackwardChar c.args.n)) c.backspace.ensures c.self.invariant
