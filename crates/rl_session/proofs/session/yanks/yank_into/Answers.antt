use Rattle.rl_session.proofs.Common.{ap, lent_plan, pair_step}
use Rattle.rl_line.proofs.Plans.PlanLemmas.{Done-nothing}
use Rattle.rl_session.proofs.session.yanks.yank_into.Goals as goal

pub returns-in-None-clause-line : goal.returns-in-None-clause-line
returns-in-None-clause-line c = Done-nothing pair_step _ c.args.line.now c.args.pair.now _ (ap (λ slot. lent_plan c.args.line.now slot c.args.n) c.in-None.ensures.value)
