use Rattle.rl_session.proofs.Runs.RowLemmas.{each_row}
use Rattle.rl_session.proofs.laws.each_row_replays.Goals as goal

pub returns : goal.returns
returns c = each_row
