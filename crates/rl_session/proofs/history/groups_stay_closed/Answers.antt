use Rattle.rl_session.proofs.Runs.HistoryLemmas.{Holds-Leads}
use Rattle.rl_session.proofs.history.groups_stay_closed.Goals as goal

pub returns : goal.returns
returns c = λ start held old new commands replies h run. (Holds-Leads start run.rows held old new h run.leads).matched
