use Rattle.rl_session.proofs.Runs.CallKillLemmas.{performed-yank}
use Rattle.rl_session.proofs.performing.performed_kills_then_yank.Goals as goal

pub returns : goal.returns
returns c = performed-yank
