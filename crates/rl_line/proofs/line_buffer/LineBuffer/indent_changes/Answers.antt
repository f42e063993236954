use Rattle.rl_line.proofs.Common.{ap, sym, ◌∙◌}
use Rattle.rl_line.proofs.Plans.IndentLemmas.{indents-change}
use Rattle.rl_line.specs.Indents.{indent_changes}
use Rattle.rl_line.proofs.line_buffer.LineBuffer.indent_changes.Goals as goal

pub returns-then-not-dedent : goal.returns-then-not-dedent
returns-then-not-dedent c = let line = c.args.self.now in sym (ap (indent_changes line c.args.mvt.now c.args.amount) c.if-not-dedent.true ∙ indents-change line c.args.mvt.now c.args.amount)
