use Rattle.rl_session.proofs.Sessions.PerformLemmas.{idle}
use Rattle.rl_session.proofs.performing.an_indent_that_changes_nothing_only_ends_a_run_of_kills.Goals as goal

pub returns : goal.returns
returns c = idle
