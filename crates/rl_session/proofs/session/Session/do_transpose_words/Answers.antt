use Rattle.rl_session.proofs.Common.{Err, err_from_is_err_and, refl, a_copy, transpose_words_plan, State}
use Rattle.rl_session.proofs.Sessions.IdleLemmas.{NoneStarts-transpose_words}
use Rattle.rl_session.proofs.Sessions.SessionLemmas.{AtRest-edit}
use Rattle.rl_session.proofs.Sessions.StepLemmas.{answered_edit}
use Rattle.rl_session.proofs.session.Session.do_transpose_words.Goals as goal

pub invariant_of-self : goal.invariant_of-self
invariant_of-self c =
    AtRest-edit a_copy _ c.self.inside.pair c.transpose_words.new.listener c.self.inside.line c.transpose_words.new.self c.transpose_words.result (rw (← c.self.view_is) at c.stands.ensures.cursor) (NoneStarts-transpose_words c.self.inside.line c.args.n) c.transpose_words.ensures c.self.invariant

pub invariant_of-self-2 : goal.invariant_of-self-2
invariant_of-self-2 c =
    AtRest-edit a_copy _ c.self.inside.pair c.transpose_words.new.listener c.self.inside.line c.transpose_words.new.self c.transpose_words.result (rw (← c.self.view_is) at c.stands.ensures.cursor) (NoneStarts-transpose_words c.self.inside.line c.args.n) c.transpose_words.ensures c.self.invariant

pub returns-in_err-transpose_words : goal.returns-in_err-transpose_words
returns-in_err-transpose_words c =
    let old : State = record { line = c.self.inside.line; pair = c.self.inside.pair; options = c.self.inside.options } in
    let p = err_from_is_err_and c.from_residual.result c.from_residual.ensures.1 in
    rw (p.1, p.2, ← c.self.view_is) (answered_edit a_copy (Unit {0}) (transpose_words_plan old.line c.args.n) old _ (Err c.in_err-transpose_words.field-0.0) tt refl c.in_err-transpose_words.ensures)
