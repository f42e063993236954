use Rattle.rl_session.proofs.Runs.ReportLemmas.{reported-row, reported-run}
use Rattle.rl_session.proofs.laws.reports_are_replayed.Goals as goal

pub returns-clause-row : goal.returns-clause-row
returns-clause-row c = reported-row

pub returns-clause-run : goal.returns-clause-run
returns-clause-run c = reported-run
