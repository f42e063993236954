use Rattle.rl_session.proofs.Sessions.SessionLemmas.{AtRest-Moved}
use Rattle.rl_session.proofs.session.Session.do_move_by.Goals as goal

pub invariant_of-self : goal.invariant_of-self
invariant_of-self c = AtRest-Moved _ c.self.inside.pair c.self.inside.line c.move_by.new.self c.move_by.result c.move_by.ensures c.self.invariant
