use Rattle.rl_session.proofs.Runs.HeldLemmas.{kept-held, undos-past_later}
use Rattle.rl_session.proofs.history.what_is_kept_was_held.Goals as goal

pub returns-clause-held : goal.returns-clause-held
returns-clause-held c = kept-held

pub returns-clause-counted : goal.returns-clause-counted
returns-clause-counted c = λ start held old new answer h kept. kept-held start held old h

pub returns-clause-undone : goal.returns-clause-undone
returns-clause-undone c = undos-past_later
