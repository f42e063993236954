use Rattle.rl_session.proofs.Common.{ap, rules, popped_plan, pair_step}
use Rattle.rl_line.proofs.Plans.PlanLemmas.{Done-nothing}
use Rattle.rl_session.proofs.session.yanks.pop_into.Goals as goal

pub returns-in-None-clause-line : goal.returns-in-None-clause-line
returns-in-None-clause-line c = Done-nothing pair_step _ c.args.line.now c.args.pair.now _ (ap (popped_plan c.args.line.now) c.in-None.ensures.value)

pub returns-in-Some-clause-line : goal.returns-in-Some-clause-line
returns-in-Some-clause-line c = search rules
