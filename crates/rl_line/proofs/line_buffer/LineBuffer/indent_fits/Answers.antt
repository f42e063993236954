use Rattle.rl_line.proofs.Common.{length, subst, ◌∙◌, ◌≤◌}
use Rattle.rl_line.proofs.Plans.LimitLemmas.{dedents-fit}
use Rattle.rl_line.proofs.line_buffer.LineBuffer.indent_fits.Goals as goal

pub returns-then-dedent : goal.returns-then-dedent
returns-then-dedent c =
    let line = c.args.self.now in
    c.if-dedent.true ∙ dedents-fit line c.args.mvt.now c.args.amount c.args.dedent c.if-dedent.true (subst (λ n. length line.text ≤ n) c.limit-limit.ensures.limit c.limit-limit.ensures.within)
