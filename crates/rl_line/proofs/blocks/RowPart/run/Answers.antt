use Rattle.rl_line.proofs.Common.{ap, drop, get_or, length, subst, sym, take, ◌∙◌, ◌≡◌}
use Rattle.rl_line.proofs.Lines.BlockLemmas.{run_part}
use Rattle.rl_line.specs.Blocks.{LiesIn}
use Rattle.rl_line.proofs.blocks.RowPart.run.Goals as goal

pub returns-clause-stands : goal.returns-clause-stands
returns-clause-stands g c =
    let f = g.P.Part.text in
    let k = c.find-index.result.0 in
    let x = c.index.result.now in
    let r = c.run.result.now in
    let lies = subst (λ l. LiesIn f l c.args.at k c.find-index.result.1) c.as_slice.ensures.value c.find-index.ensures.lies in
    let lt = c.find-index.ensures.within x (c.index.ensures ∙ ap (λ l. get_or l k x) (sym c.as_slice.ensures.value)) in
    subst (λ t. r ≡ take (length r) (drop c.args.at t)) c.self.view_is
    (run_part f c.self.inside.parts.items k x lies.index c.index.ensures c.args.at c.find-index.result.1 lies r lt c.run.ensures.stands)
