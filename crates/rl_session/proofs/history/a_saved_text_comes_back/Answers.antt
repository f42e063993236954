use Rattle.rl_session.proofs.Runs.HistoryLemmas.{Saved-Leads, saved-text}
use Rattle.rl_session.proofs.history.a_saved_text_comes_back.Goals as goal

pub returns-clause-stays : goal.returns-clause-stays
returns-clause-stays c = λ es old new commands replies run s. Saved-Leads es run.rows old new s run.leads

pub returns-clause-text : goal.returns-clause-text
returns-clause-text c = saved-text
