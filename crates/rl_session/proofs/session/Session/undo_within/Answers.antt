use Rattle.rl_session.proofs.Common.{◌≡◌, ◌∙◌, false, Line, Walks}
use Rattle.rl_record.proofs.Records.MoveLemmas.{undo-fits}
use Rattle.rl_record.proofs.Records.WalkLemmas.{Walks-Undone, Walks-back}
use Rattle.rl_session.proofs.Sessions.PerformLemmas.{within-keeps}
use Rattle.rl_session.proofs.Sessions.SessionLemmas.{grow-Undone}
use Rattle.rl_session.proofs.session.Session.undo_within.Goals as goal

pub invariant_of-self : goal.invariant_of-self
invariant_of-self c =
    let kept = within-keeps (λ r (l : Line). Walks r l.text × (l.grow ≡ false)) _ _ _ _ _ _ _ c.undo_within.result (λ a d w. (Walks-Undone _ _ _ _ _ a d w.0, grow-Undone _ _ _ _ _ a d ∙ w.1))
    c.undo_within.ensures.done c.undo_within.ensures.err (c.self.invariant.walks, c.self.invariant.grows_not) in
    record { walks = kept.0; idle = c.self.invariant.idle; grows_not = kept.1 }

pub undo_within-requires-clause-follows : goal.undo_within-requires-clause-follows
undo_within-requires-clause-follows c =
    undo-fits _ c.self.inside.pair.changes.recorded c.self.inside.line
    (Walks-back c.self.inside.pair.changes c.self.inside.line c.self.invariant.walks (rw (← c.self.view_is) at c.stands.ensures.cursor))
