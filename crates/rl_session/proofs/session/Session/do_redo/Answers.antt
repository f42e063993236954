use Rattle.rl_session.proofs.Common.{rules, ◌∙◌}
use Rattle.rl_record.proofs.Records.MoveLemmas.{redo-fits}
use Rattle.rl_record.proofs.Records.WalkLemmas.{Walks-Redone, Walks-ahead}
use Rattle.rl_session.proofs.Sessions.SessionLemmas.{grow-Redone}
use Rattle.rl_session.proofs.session.Session.do_redo.Goals as goal

pub invariant_of-self-2 : goal.invariant_of-self-2
invariant_of-self-2 c = record {
  walks = Walks-Redone _ _ _ _ _ c.in_ok-done.ensures.done c.self.invariant.walks;
  idle = c.self.invariant.idle;
  grows_not = grow-Redone _ _ _ _ _ c.in_ok-done.ensures.done ∙ c.self.invariant.grows_not;
}

pub returns : goal.returns
returns c = search rules

pub redo_telling-requires-clause-follows : goal.redo_telling-requires-clause-follows
redo_telling-requires-clause-follows c =
    redo-fits c.self.inside.pair.changes.pending c.self.inside.line
    (Walks-ahead c.self.inside.pair.changes c.self.inside.line c.self.invariant.walks (rw (← c.self.view_is) at c.stands.ensures.cursor))
