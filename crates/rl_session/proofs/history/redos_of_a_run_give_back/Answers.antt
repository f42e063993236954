use Rattle.rl_session.proofs.Runs.HistoryLemmas.{redo-in_run}
use Rattle.rl_session.proofs.history.redos_of_a_run_give_back.Goals as goal

pub returns : goal.returns
returns c = redo-in_run
