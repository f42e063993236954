use Rattle.rl_session.proofs.Sessions.WatchLemmas.{changed_row, changed_run, reported_row, reported_run}
use Rattle.rl_session.proofs.laws.what_changed_is_told.Goals as goal

pub returns-clause-changed : goal.returns-clause-changed
returns-clause-changed c = changed_row

pub returns-clause-reported : goal.returns-clause-reported
returns-clause-reported c = reported_row

pub returns-clause-changed_over : goal.returns-clause-changed_over
returns-clause-changed_over c = changed_run

pub returns-clause-reported_over : goal.returns-clause-reported_over
returns-clause-reported_over c = reported_run
