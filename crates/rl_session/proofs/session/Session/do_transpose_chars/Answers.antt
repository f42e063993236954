use Rattle.rl_session.proofs.Sessions.IdleLemmas.{NoneStarts-transpose_chars}
use Rattle.rl_session.proofs.Sessions.SessionLemmas.{AtRest-edit}
use Rattle.rl_session.proofs.session.Session.do_transpose_chars.Goals as goal
use Rattle.rl_session.proofs.Common.{a_copy}

pub invariant_of-self : goal.invariant_of-self
invariant_of-self c =
    AtRest-edit a_copy _ c.self.inside.pair c.transpose_chars.new.listener c.self.inside.line c.transpose_chars.new.self c.transpose_chars.result (rw (← c.self.view_is) at c.stands.ensures.cursor) (NoneStarts-transpose_chars c.self.inside.line) c.transpose_chars.ensures.outcome c.self.invariant
