use Rattle.rl_session.proofs.Common.{replied}
use Rattle.rl_session.specs.declared.session.Reply.TheVariants as says
use Rattle.rl_session.proofs.Sessions.PerformLemmas.{indented, indented_not}
use Rattle.rl_session.proofs.session.Session.indent.Goals as goal

pub returns-then-not-indent_changes : goal.returns-then-not-indent_changes
returns-then-not-indent_changes c =
    indented_not c.args.movement.now c.args.amount c.args.dedent c.indent_changes.result c.args.self.now c.move_by.new.self (replied says.Answer c.move_by.result)
    (rw (← c.self.view_is) c.indent_changes.ensures) c.if-not-indent_changes.true c.move_by.ensures

pub returns : goal.returns
returns c =
    indented c.args.movement.now c.args.amount c.args.dedent c.indent_changes.result c.args.self.now c.indent_lines.new.self (replied says.Answer c.indent_lines.result)
    (rw (← c.self.view_is) c.indent_changes.ensures) c.if-not-indent_changes.false c.indent_lines.ensures
