use Rattle.rl_session.proofs.Sessions.PerformLemmas.{bars_insertion}
use Rattle.rl_session.proofs.session.Session.insert_str_is_too_long.Goals as goal

pub returns-then-can_insert_str : goal.returns-then-can_insert_str
returns-then-can_insert_str c = λ text e. rw (← c.self.view_is) (bars_insertion _ _ _ text (rw (← e) at c.can_insert_str.ensures.yes c.if-can_insert_str.true) (rw (← e) at c.insert_str_fits.ensures c.args.idx))
