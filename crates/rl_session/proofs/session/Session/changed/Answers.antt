use Rattle.rl_session.proofs.Common.{ap, State}
use Rattle.rl_base.proofs.Texts.SpliceLemmas.{told-means}
use Rattle.rl_session.proofs.session.Session.changed.Goals as goal

pub returns-clause-splices : goal.returns-clause-splices
returns-clause-splices c = λ asked h. rw (c.changed.ensures.told, ap (λ (s : State). s.pair.watch.changed) c.self.view_is) (told-means _ asked _ h.covers)
