use Rattle.rl_session.specs.Performing.{counted_as}
use Rattle.rl_session.proofs.Runs.CallLemmas.{changed-Obeyed, reported-Obeyed}
use Rattle.rl_session.proofs.performing.what_a_command_changed_is_told.Goals as goal

pub returns-clause-changed : goal.returns-clause-changed
returns-clause-changed c = λ asked old new command reply p. changed-Obeyed asked old new (counted_as old command) reply p

pub returns-clause-reported : goal.returns-clause-reported
returns-clause-reported c = λ read old new command reply p. reported-Obeyed read old new (counted_as old command) reply p
