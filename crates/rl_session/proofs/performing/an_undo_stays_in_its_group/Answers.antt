use Rattle.rl_session.proofs.Runs.InGroupLemmas.{level-Obeyed}
use Rattle.rl_session.proofs.performing.an_undo_stays_in_its_group.Goals as goal

pub returns : goal.returns
returns c = level-Obeyed
