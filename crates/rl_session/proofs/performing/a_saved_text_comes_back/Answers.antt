use Rattle.rl_session.proofs.Runs.CallSavePointLemmas.{saved-performed}
use Rattle.rl_session.proofs.performing.a_saved_text_comes_back.Goals as goal

pub returns : goal.returns
returns c = saved-performed
