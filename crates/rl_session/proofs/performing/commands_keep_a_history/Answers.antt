use Rattle.rl_session.proofs.Runs.CallLemmas.{HoldsFrom-Calls, undo-Obeyed}
use Rattle.rl_session.proofs.performing.commands_keep_a_history.Goals as goal

pub returns-clause-held : goal.returns-clause-held
returns-clause-held c = HoldsFrom-Calls

pub returns-clause-undo : goal.returns-clause-undo
returns-clause-undo c = undo-Obeyed
