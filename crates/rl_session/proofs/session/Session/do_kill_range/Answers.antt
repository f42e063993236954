use Rattle.rl_session.proofs.Common.{false, kill_range_plan, unless_empty}
use Rattle.rl_session.proofs.Sessions.IdleLemmas.{NoneStarts-removal}
use Rattle.rl_session.proofs.Sessions.SessionLemmas.{AtRest-told}
use Rattle.rl_session.proofs.session.Session.do_kill_range.Goals as goal

pub invariant_of-self : goal.invariant_of-self
invariant_of-self c =
    AtRest-told false (kill_range_plan c.self.inside.line c.args.from c.args.to c.args.dir) c.self.inside.pair c.kill_range.new.listener c.self.inside.line c.kill_range.new.self c.kill_range.result
    (rw (← c.self.view_is) at c.stands.ensures.cursor) (NoneStarts-removal c.self.inside.line (unless_empty c.args.from c.args.to) c.args.dir) c.kill_range.ensures c.self.invariant

pub invariant_of-self-2 : goal.invariant_of-self-2
invariant_of-self-2 c =
    AtRest-told false (kill_range_plan c.self.inside.line c.args.from c.args.to c.args.dir) c.self.inside.pair c.kill_range.new.listener c.self.inside.line c.kill_range.new.self c.kill_range.result
    (rw (← c.self.view_is) at c.stands.ensures.cursor) (NoneStarts-removal c.self.inside.line (unless_empty c.args.from c.args.to) c.args.dir) c.kill_range.ensures c.self.invariant
