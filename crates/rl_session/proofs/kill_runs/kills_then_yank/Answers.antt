use Rattle.rl_session.proofs.Runs.KillRunLemmas.{directed-yank, kills-yank}
use Rattle.rl_session.proofs.kill_runs.kills_then_yank.Goals as goal

pub returns-clause-movements : goal.returns-clause-movements
returns-clause-movements c = kills-yank

pub returns-clause-ranges : goal.returns-clause-ranges
returns-clause-ranges c = directed-yank
