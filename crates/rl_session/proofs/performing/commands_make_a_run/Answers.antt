use Rattle.rl_session.proofs.Common.{refl}
use Rattle.rl_session.proofs.Runs.CallLemmas.{rows_of-Leads}
use Rattle.rl_session.proofs.performing.commands_make_a_run.Goals as goal

pub returns-clause-rows : goal.returns-clause-rows
returns-clause-rows c = rows_of-Leads

pub returns-clause-texts : goal.returns-clause-texts
returns-clause-texts c = λ old new text make reply p. p text refl
