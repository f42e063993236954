use Rattle.rl_session.proofs.Runs.UnitLawLemmas.{unit-gives_back, unit-leads}
use Rattle.rl_session.proofs.performing.a_command_is_undone_at_once.Goals as goal

pub returns-clause-leads : goal.returns-clause-leads
returns-clause-leads c = unit-leads

pub returns-clause-text : goal.returns-clause-text
returns-clause-text c = unit-gives_back
