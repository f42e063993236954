use Rattle.rl_line.proofs.Common.{arith, last_line, ◌≡◌}
use Rattle.rl_line.proofs.Lines.LineReadLemmas.{EndsAt, EndsAt-after, EndsAt-start, ends_at, last-ends}
use Rattle.rl_line.proofs.line_buffer.LineBuffer.after_line.Goals.{After-start}
use Rattle.rl_line.proofs.line_buffer.LineBuffer.after_line.Goals as goal

-- the newline at its end
next : (c : After-start) → EndsAt c.args.self.now.text c.args.k c.start.result
next c = ends_at c.args.self.now.text c.args.k c.start.result (omega (arith, c.requires, c.if-k-last_line.false, c.last_line.ensures)) c.start.ensures.start

pub returns-clause-value : goal.returns-clause-value
returns-clause-value c = EndsAt-after c.args.self.now.text c.args.k _ (next (goal.at.returns-clause-value c).After-start)

pub returns-clause-boundary : goal.returns-clause-boundary
returns-clause-boundary c = EndsAt-start c.args.self.now.text c.args.k _ (next (goal.at.returns-clause-boundary c).After-start) c.start.ensures.utf8

pub returns-then-k-last_line-clause-value : goal.returns-then-k-last_line-clause-value
returns-then-k-last_line-clause-value c =
    let text = c.args.self.now.text in
    let last : c.args.k ≡ last_line text = omega (arith, c.if-k-last_line.true, c.last_line.ensures) in
    omega (arith, c.len.ensures.len, last-ends text c.args.k last)
