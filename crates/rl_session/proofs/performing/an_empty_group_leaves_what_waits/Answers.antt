use Rattle.rl_session.proofs.Runs.EmptyGroupLemmas.{leaves-record, waits-on}
use Rattle.rl_session.proofs.performing.an_empty_group_leaves_what_waits.Goals as goal

pub returns-clause-waits : goal.returns-clause-waits
returns-clause-waits c = waits-on

pub returns-clause-record : goal.returns-clause-record
returns-clause-record c = leaves-record
