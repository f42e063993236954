use Rattle.rl_session.proofs.Common.{rules}
use Rattle.rl_session.proofs.session.Session.open.Goals as goal

pub on-requires-clause-empty : goal.on-requires-clause-empty
on-requires-clause-empty c = search rules

pub returns-clause-opens : goal.returns-clause-opens
returns-clause-opens c = search rules
