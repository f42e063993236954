use Rattle.rl_session.proofs.Common.{◌≡◌, ◌∙◌, false, Line, Walks}
use Rattle.rl_record.proofs.Records.MoveLemmas.{redo-fits}
use Rattle.rl_record.proofs.Records.WalkLemmas.{Walks-Redone, Walks-ahead}
use Rattle.rl_session.proofs.Sessions.PerformLemmas.{within-keeps}
use Rattle.rl_session.proofs.Sessions.SessionLemmas.{grow-Redone}
use Rattle.rl_session.proofs.session.Session.redo_within.Goals as goal

pub invariant_of-self : goal.invariant_of-self
invariant_of-self c =
    let kept = within-keeps (λ r (l : Line). Walks r l.text × (l.grow ≡ false)) _ _ _ _ _ _ _ c.redo_within.result (λ a d w. (Walks-Redone _ _ _ _ a d w.0, grow-Redone _ _ _ _ a d ∙ w.1))
    c.redo_within.ensures.done c.redo_within.ensures.err (c.self.invariant.walks, c.self.invariant.grows_not) in
    record { walks = kept.0; idle = c.self.invariant.idle; grows_not = kept.1 }

pub redo_within-requires-clause-follows : goal.redo_within-requires-clause-follows
redo_within-requires-clause-follows c =
    redo-fits c.self.inside.pair.changes.pending c.self.inside.line
    (Walks-ahead c.self.inside.pair.changes c.self.inside.line c.self.invariant.walks (rw (← c.self.view_is) at c.stands.ensures.cursor))
