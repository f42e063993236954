use Rattle.rl_line.proofs.Common.{ap, sym, ◌++◌, ◌∙◌}
use Rattle.rl_line.proofs.Lines.LineStartLemmas.{found-nth}
use Rattle.rl_line.proofs.line_starts.nth_start.Goals as goal

pub returns-then-n-k : goal.returns-then-n-k
returns-then-n-k c =
    let done = c.loop-newline.yielded in
    found-nth c.args.text.now done c.next.new.self c.in-Some.newline c.args.k (ap (λ l. done ++ l) (sym c.in-Some.ensures.steps) ∙ c.loop-newline.invariant.all)
    (sym c.if-n-k.true ∙ c.loop-newline.invariant.count)
