use Rattle.rl_session.proofs.Runs.HistoryLemmas.{undo-in_run, undo-drops}
use Rattle.rl_session.proofs.history.undo_leaves_a_held_text.Goals as goal

pub returns-clause-held : goal.returns-clause-held
returns-clause-held c = undo-in_run

pub returns-clause-dropped : goal.returns-clause-dropped
returns-clause-dropped c = undo-drops
