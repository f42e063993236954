use Rattle.rl_line.proofs.Common.{List, ap, text_of_line, ℕ, ◌∙◌}
use Rattle.rl_line.proofs.Lines.FirstLineLemmas.{first_line-at}
use Rattle.rl_line.proofs.gapped.Gapped.line_from.Goals as goal

pub returns-clause-is : goal.returns-clause-is
returns-clause-is c =
    first_line-at c.args.self.now.roomy.line.text c.args.at c.first_line.result.now (c.first_line.ensures.text ∙ ap (λ (t : List ℕ). text_of_line t 0) c.text_from.ensures)
