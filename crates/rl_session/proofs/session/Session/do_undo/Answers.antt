use Rattle.rl_session.proofs.Common.{rules, ◌∙◌}
use Rattle.rl_record.proofs.Records.MoveLemmas.{undo-fits}
use Rattle.rl_record.proofs.Records.WalkLemmas.{Walks-Undone, Walks-back}
use Rattle.rl_session.proofs.Sessions.SessionLemmas.{grow-Undone}
use Rattle.rl_session.proofs.session.Session.do_undo.Goals as goal

pub invariant_of-self-2 : goal.invariant_of-self-2
invariant_of-self-2 c = record {
  walks = Walks-Undone _ _ _ _ _ _ c.in_ok-done.ensures.done c.self.invariant.walks;
  idle = c.self.invariant.idle;
  grows_not = grow-Undone _ _ _ _ _ _ c.in_ok-done.ensures.done ∙ c.self.invariant.grows_not;
}

pub returns : goal.returns
returns c = search rules

pub undo_telling-requires-clause-follows : goal.undo_telling-requires-clause-follows
undo_telling-requires-clause-follows c =
    undo-fits _ c.self.inside.pair.changes.recorded c.self.inside.line
    (Walks-back c.self.inside.pair.changes c.self.inside.line c.self.invariant.walks (rw (← c.self.view_is) at c.stands.ensures.cursor))
