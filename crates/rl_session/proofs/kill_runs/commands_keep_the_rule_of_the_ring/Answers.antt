use Rattle.rl_session.proofs.Runs.RowLemmas.{Step-rule, Step-size}
use Rattle.rl_session.proofs.kill_runs.commands_keep_the_rule_of_the_ring.Goals as goal

pub returns-clause-rule : goal.returns-clause-rule
returns-clause-rule c = Step-rule

pub returns-clause-size : goal.returns-clause-size
returns-clause-size c = Step-size
