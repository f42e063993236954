use Rattle.rl_session.proofs.Common.{a_copy}
use Rattle.rl_session.proofs.Sessions.IdleLemmas.{NoneStarts-edit_word}
use Rattle.rl_session.proofs.Sessions.SessionLemmas.{AtRest-edit}
use Rattle.rl_session.proofs.session.Session.do_edit_word.Goals as goal

pub invariant_of-self : goal.invariant_of-self
invariant_of-self c =
    AtRest-edit a_copy _ c.self.inside.pair c.edit_word.new.listener c.self.inside.line c.edit_word.new.self c.edit_word.result (rw (← c.self.view_is) at c.stands.ensures.cursor) (NoneStarts-edit_word c.self.inside.line c.args.action) c.edit_word.ensures c.self.invariant
