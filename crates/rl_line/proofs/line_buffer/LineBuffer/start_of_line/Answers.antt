use Rattle.rl_line.proofs.Common.{IsCharBoundary-start, ap, arith, start_of_line, ◌+◌, ◌-◌, ◌∙◌, ◌≡◌}
use Rattle.rl_line.proofs.Lines.LineReadLemmas.{EndsAt, EndsAt-start, EndsAt-stop, ends_at}
use Rattle.rl_line.proofs.line_buffer.LineBuffer.start_of_line.Goals.{After-start}
use Rattle.rl_line.proofs.line_buffer.LineBuffer.start_of_line.Goals as goal

-- the newline above the line
above : (c : After-start) → EndsAt c.args.self.now.text (c.args.k - 1) c.start.result
above c = ends_at c.args.self.now.text (c.args.k - 1) c.start.result (omega (arith, c.requires, c.if-k-eq0.false)) c.start.ensures.start

pub returns-clause-value : goal.returns-clause-value
returns-clause-value c =
    let same : c.args.k - 1 + 1 ≡ c.args.k = omega (arith, c.if-k-eq0.false) in
    (above (goal.at.returns-clause-value c).After-start).start ∙ ap (start_of_line c.args.self.now.text) same

pub returns-clause-boundary : goal.returns-clause-boundary
returns-clause-boundary c = EndsAt-start c.args.self.now.text (c.args.k - 1) _ (above (goal.at.returns-clause-boundary c).After-start) c.start.ensures.utf8

pub returns-clause-above : goal.returns-clause-above
returns-clause-above c = λ _. EndsAt-stop c.args.self.now.text (c.args.k - 1) _ (above (goal.at.returns-clause-above c).After-start)

pub returns-then-k-eq0-clause-boundary : goal.returns-then-k-eq0-clause-boundary
returns-then-k-eq0-clause-boundary c = IsCharBoundary-start c.args.self.now.text c.pos-cursor.ensures.utf8
