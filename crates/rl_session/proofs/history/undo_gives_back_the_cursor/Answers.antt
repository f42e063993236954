use Rattle.rl_session.proofs.Runs.GiveBackLemmas.{redo-gives_again, undo-gives_back}
use Rattle.rl_session.proofs.history.undo_gives_back_the_cursor.Goals as goal

pub returns-clause-undone : goal.returns-clause-undone
returns-clause-undone c = undo-gives_back

pub returns-clause-redone : goal.returns-clause-redone
returns-clause-redone c = redo-gives_again
