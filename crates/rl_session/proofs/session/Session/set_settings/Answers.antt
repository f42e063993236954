use Rattle.rl_session.proofs.Common.{rules}
use Rattle.rl_session.proofs.session.Session.set_settings.Goals as goal

pub returns-clause-ok : goal.returns-clause-ok
returns-clause-ok c = search rules
