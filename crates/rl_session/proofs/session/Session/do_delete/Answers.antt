use Rattle.rl_session.proofs.Common.{option_map, string_bytes, rules, ForwardChar, a_copy}
use Rattle.rl_session.proofs.Sessions.IdleLemmas.{NoneStarts-kill}
use Rattle.rl_session.proofs.Sessions.SessionLemmas.{AtRest-edit}
use Rattle.rl_session.proofs.session.Session.do_delete.Goals as goal

pub invariant_of-self : goal.invariant_of-self
invariant_of-self c =
    AtRest-edit a_copy _ (option_map string_bytes) c.self.inside.pair c.delete.new.listener c.self.inside.line c.delete.new.self c.delete.result (rw (← c.self.view_is) at c.stands.ensures.cursor) (NoneStarts-kill c.self.inside.line (ForwardChar c.args.n)) c.delete.ensures.done c.delete.ensures.halted c.self.invariant

pub returns : goal.returns
returns c = search rules
