use Rattle.rl_line.proofs.Common.{ap, arith, length, sym, ◌∙◌, ◌≡◌}
use Rattle.rl_base.proofs.Texts.TextLemmas.{is_boundary-means}
use Rattle.rl_line.proofs.Changes.ChangeLemmas.{stands_at-nothing}
use Rattle.rl_line.proofs.Lines.BlockLemmas.{boundary-end, run-stands, stands-parts}
use Rattle.rl_line.proofs.blocks.Row.stands_at.Goals as goal

pub returns-then-at-self : goal.returns-then-at-self
returns-then-at-self g c =
    let end : c.args.at ≡ length c.args.self.now = omega (arith, ap length c.self.view_is, c.self.invariant.0) in
    stands_at-nothing c.args.self.now c.args.at c.args.part.now (omega (arith, c.requires, end)) (is_boundary-means c.args.self.now c.args.at (sym (boundary-end c.args.self.now c.args.at end)))

pub returns-then-part-run : goal.returns-then-part-run
returns-then-part-run g c =
    c.stands_first.ensures
    ∙ run-stands c.args.self.now c.run-run.result.now c.args.at c.run-run.ensures.stands (omega (arith, c.requires, ap length c.self.view_is, c.self.invariant.0)) c.args.part.now c.as_bytes.result.now c.utf8.part
    c.as_bytes.ensures.value (omega arith)

pub returns : goal.returns
returns g c = c.stands_across.ensures ∙ stands-parts c.args.self.now c.args.part.now c.as_bytes-2.result.now c.args.at c.utf8.part c.as_bytes-2.ensures.value
