use Rattle.rl_session.proofs.Common.{Err, err_from_is_err_and, indent_plan, refl, room_by_step, State}
use Rattle.rl_session.proofs.Sessions.IdleLemmas.{NoneStarts-indent}
use Rattle.rl_session.proofs.Sessions.SessionLemmas.{AtRest-edit}
use Rattle.rl_session.proofs.Sessions.StepLemmas.{answered_edit}
use Rattle.rl_session.proofs.session.Session.do_indent.Goals as goal

pub invariant_of-self : goal.invariant_of-self
invariant_of-self c =
    AtRest-edit room_by_step _ c.self.inside.pair c.indent.new.listener c.self.inside.line c.indent.new.self c.indent.result (rw (← c.self.view_is) at c.stands.ensures.cursor) (NoneStarts-indent c.self.inside.line c.args.movement.now c.args.amount c.args.dedent) c.indent.ensures c.self.invariant

pub invariant_of-self-2 : goal.invariant_of-self-2
invariant_of-self-2 c =
    AtRest-edit room_by_step _ c.self.inside.pair c.indent.new.listener c.self.inside.line c.indent.new.self c.indent.result (rw (← c.self.view_is) at c.stands.ensures.cursor) (NoneStarts-indent c.self.inside.line c.args.movement.now c.args.amount c.args.dedent) c.indent.ensures c.self.invariant

pub returns-in_err-indent : goal.returns-in_err-indent
returns-in_err-indent c =
    let old : State = record { line = c.self.inside.line; pair = c.self.inside.pair; options = c.self.inside.options } in
    let p = err_from_is_err_and c.from_residual.result c.from_residual.ensures.1 in
    rw (p.1, p.2, ← c.self.view_is) (answered_edit room_by_step (Unit {0}) (indent_plan old.line c.args.movement.now c.args.amount c.args.dedent) old _ (Err c.in_err-indent.field-0.0) tt refl c.in_err-indent.ensures)
