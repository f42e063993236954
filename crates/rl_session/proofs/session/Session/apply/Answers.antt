use Rattle.rl_session.proofs.Runs.RowLemmas.{step_origin, step_replays}
use Rattle.rl_session.proofs.Sessions.SessionLemmas.{follows_unwind}
use Rattle.rl_session.proofs.session.Session.apply.Goals as goal

pub returns-clause-replays : goal.returns-clause-replays
returns-clause-replays c = λ start. step_replays start _ _ _ _ c.do_command.ensures

pub returns-clause-origin : goal.returns-clause-origin
returns-clause-origin c = step_origin _ _ _ _ c.do_command.ensures c.stands.ensures.utf8 (follows_unwind _ _ c.follows.ensures)
