use Rattle.rl_session.proofs.Runs.CallGroupLemmas.{abandon-performed, group-performed}
use Rattle.rl_session.proofs.performing.a_group_is_undone_at_once.Goals as goal

pub returns-clause-ended : goal.returns-clause-ended
returns-clause-ended c = group-performed

pub returns-clause-abandoned : goal.returns-clause-abandoned
returns-clause-abandoned c = abandon-performed
