use Rattle.rl_session.proofs.Runs.RowLemmas.{Step-options, within_bound-none}
use Rattle.rl_session.proofs.session.forgetting.nothing_goes_without_a_bound.Goals as goal

pub returns-clause-forgets : goal.returns-clause-forgets
returns-clause-forgets c = within_bound-none

pub returns-clause-keeps : goal.returns-clause-keeps
returns-clause-keeps c = Step-options
