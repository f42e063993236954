use Rattle.rl_session.proofs.Runs.HistoryLemmas.{Holds-Begins, Holds-Leads}
use Rattle.rl_session.proofs.Runs.PlaceLemmas.{pending-leads}
use Rattle.rl_session.proofs.history.record_is_placed.Goals as goal

pub returns-clause-begins : goal.returns-clause-begins
returns-clause-begins c = Holds-Begins

pub returns-clause-again : goal.returns-clause-again
returns-clause-again c = λ start held old new commands replies h run. Holds-Leads start run.rows held old new h run.leads

pub returns-clause-redone : goal.returns-clause-redone
returns-clause-redone c = λ start held s h. pending-leads start held s.line.text s.pair.changes h
