use Rattle.rl_session.proofs.Common.{arith, sym, ◌∙◌}
use Rattle.rl_session.proofs.Sessions.WaitingLemmas.{ended_one_waiting}
use Rattle.rl_session.proofs.session.Session.end_one.Goals as goal

pub returns-then-close_empty : goal.returns-then-close_empty
returns-then-close_empty c =
    ended_one_waiting c.min.result c.args.self.now c.close_empty.new.self _ _ (omega (arith, c.min.ensures, c.level-open.ensures)) c.forget.ensures c.reset_ring.ensures
    (c.close_empty.ensures.done c.if-close_empty.true) (sym c.close_empty.ensures.answer ∙ c.if-close_empty.true)
