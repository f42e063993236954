use Rattle.rl_line.proofs.Common.{ap, arith, drop, err_from_is_err_and, length, lines, text_of_line, ℕ, ◌+◌, ◌<◌, ◌∙◌}
use Rattle.rl_base.proofs.Texts.LineLemmas.{count_of_lines}
use Rattle.rl_line.proofs.Lines.FirstLineLemmas.{IsCharBoundary-start_of_line, first-of_line}
use Rattle.rl_line.proofs.Plans.IndentLemmas.{LinesDone-halted, LinesDone-more, LinesDone-next, one-more}
use Rattle.rl_line.proofs.gapped.Gapped.shift_lines.Given.{Over}
use Rattle.rl_line.proofs.gapped.Gapped.shift_lines.Goals.{After-pos-cursor}
use Rattle.rl_line.specs.Indents.{spaces_each}
use Rattle.rl_line.proofs.gapped.Gapped.shift_lines.Goals as goal

within : (g : Over) (c : After-pos-cursor g) → c.loop-k.k < length (lines c.loop-k.self.roomy.line.text)
within g c = omega (arith, c.loop-k-test.true, c.loop-k.invariant.done.count, c.requires.within, count_of_lines c.loop-k.self.roomy.line.text)

pub shift_line-requires-clause-place : goal.shift_line-requires-clause-place
shift_line-requires-clause-place g c =
    IsCharBoundary-start_of_line c.loop-k.self.roomy.line.text c.loop-k.k c.loop-k.at (within g (goal.at.shift_line-requires-clause-place g c).After-pos-cursor) c.loop-k.invariant.start c.pos-cursor.ensures.utf8

pub returns-in_err-at : goal.returns-in_err-at
returns-in_err-at g c =
    let p = err_from_is_err_and c.from_residual.result c.from_residual.ensures.1 in
    let now = c.loop-k.self.roomy.line in
    let small = within g (goal.at.returns-in_err-at g c).After-pos-cursor in
    let inv = c.loop-k.invariant in
    rw (p.1, p.2)
    (LinesDone-halted _ _ _ _ _ now _ _ c.loop-k.k _ inv.done c.loop-k.at (text_of_line (drop c.loop-k.at now.text) 0) inv.start (first-of_line now.text c.loop-k.k c.loop-k.at small inv.start) c.loop-k-test.true small
    _ _ _ _ c.in_err-at.ensures.steps)

pub loop-k-preserved : goal.loop-k-preserved
loop-k-preserved g c =
    let now = c.loop-k.self.roomy.line in
    let small = within g (goal.at.loop-k-preserved g c).After-pos-cursor in
    let inv = c.loop-k.invariant in
    let part = text_of_line (drop c.loop-k.at now.text) 0 in
    let part_is = first-of_line now.text c.loop-k.k c.loop-k.at small inv.start in
    let one = c.in_ok-at.ensures in
    record {
      done = LinesDone-more _ _ _ _ _ now _ _ c.loop-k.k _ inv.done c.loop-k.at part inv.start part_is c.loop-k-test.true small _ _ one.steps;
      start = ap (λ (n : ℕ). n + 1) one.end ∙ LinesDone-next _ _ _ _ _ now _ _ c.loop-k.k _ inv.done c.loop-k.at part inv.start part_is c.loop-k-test.true small _ _ one.steps;
      gap = omega (arith, one.gap);
      room = omega (arith, one.len, one.bytes, inv.room, one-more (spaces_each c.args.dedent c.args.amount) c.loop-k.k c.args.lines.end c.loop-k-test.true);
    }
