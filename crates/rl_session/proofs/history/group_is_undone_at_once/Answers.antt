use Rattle.rl_session.proofs.Runs.UndoGroupLemmas.{group-in_run}
use Rattle.rl_session.proofs.history.group_is_undone_at_once.Goals as goal

pub returns : goal.returns
returns c = group-in_run
