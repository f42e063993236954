use Rattle.rl_session.proofs.Common.{◌∙◌}
use Rattle.rl_record.proofs.Records.AbandonLemmas.{abandon-fits, abandoned-walks}
use Rattle.rl_record.proofs.Records.WalkLemmas.{Walks-back}
use Rattle.rl_session.proofs.Sessions.SessionLemmas.{grow-Abandoned}
use Rattle.rl_session.proofs.session.Session.do_abandon.Goals as goal

pub invariant_of-self-2 : goal.invariant_of-self-2
invariant_of-self-2 c = record {
  walks = (abandoned-walks _ _ _ _ _ c.in_ok-done.ensures.done c.self.invariant.walks).1;
  idle = c.self.invariant.idle;
  grows_not = grow-Abandoned _ _ _ _ _ c.in_ok-done.ensures.done ∙ c.self.invariant.grows_not;
}

pub abandon_telling-requires-clause-follows : goal.abandon_telling-requires-clause-follows
abandon_telling-requires-clause-follows c =
    abandon-fits c.self.inside.pair.changes.recorded c.self.inside.line
    (Walks-back c.self.inside.pair.changes c.self.inside.line c.self.invariant.walks (rw (← c.self.view_is) at c.stands.ensures.cursor))
