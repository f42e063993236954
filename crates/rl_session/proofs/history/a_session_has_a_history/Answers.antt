use Rattle.rl_session.proofs.Runs.HeldLemmas.{history-of}
use Rattle.rl_session.proofs.history.a_session_has_a_history.Goals as goal

pub returns : goal.returns
returns c = history-of
