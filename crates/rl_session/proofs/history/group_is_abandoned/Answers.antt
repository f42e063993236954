use Rattle.rl_session.proofs.Runs.UndoGroupLemmas.{abandon-in_run}
use Rattle.rl_session.proofs.history.group_is_abandoned.Goals as goal

pub returns : goal.returns
returns c = abandon-in_run
