use Rattle.rl_line.proofs.Common.{arith, last_line, sym, ◌∙◌, ◌≡◌}
use Rattle.rl_line.proofs.Lines.LineReadLemmas.{EndsAt, EndsAt-stop, ends_at, last-ends}
use Rattle.rl_line.proofs.line_buffer.LineBuffer.end_of_line.Goals.{After-start}
use Rattle.rl_line.proofs.line_buffer.LineBuffer.end_of_line.Goals as goal

-- the newline at its end
next : (c : After-start) → EndsAt c.args.self.now.text c.args.k c.start.result
next c = ends_at c.args.self.now.text c.args.k c.start.result (omega (arith, c.requires, c.if-k-last_line.false, c.last_line.ensures)) c.start.ensures.start

pub overflow_sub-result : goal.overflow_sub-result
overflow_sub-result c = omega (arith, (next (goal.at.overflow_sub-result c).After-start).stop)

pub returns-clause-value : goal.returns-clause-value
returns-clause-value c = omega (arith, (next (goal.at.returns-clause-value c).After-start).stop)

pub returns-clause-boundary : goal.returns-clause-boundary
returns-clause-boundary c = EndsAt-stop c.args.self.now.text c.args.k _ (next (goal.at.returns-clause-boundary c).After-start)

pub returns-then-k-last_line-clause-value : goal.returns-then-k-last_line-clause-value
returns-then-k-last_line-clause-value c =
    let text = c.args.self.now.text in
    let last : c.args.k ≡ last_line text = omega (arith, c.if-k-last_line.true, c.last_line.ensures) in
    c.len.ensures.len ∙ sym (last-ends text c.args.k last)
