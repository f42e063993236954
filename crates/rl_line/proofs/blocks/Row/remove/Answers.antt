use Rattle.rl_line.proofs.Common.{ap, arith, length, remove_range, ◌+◌, ◌-◌, ◌∙◌, ◌≡◌, ◌≤◌}
use Rattle.rl_line.proofs.Lines.BlockLemmas.{length-removed, removed_more}
use Rattle.rl_line.proofs.blocks.Row.remove.Goals as goal

pub loop-left-preserved : goal.loop-left-preserved
loop-left-preserved g c =
    let s = c.loop-left.self in
    let n = c.cut-left.result in
    let le : c.args.at + n ≤ length s = c.cut-left.ensures.within in
    let all : n + (c.loop-left.left - n) ≡ c.loop-left.left = omega (arith, c.cut-left.ensures.most) in
    record {
      within = omega (arith, c.loop-left.invariant.within, c.cut-left.ensures.most, ap length c.cut-left.ensures.text, length-removed s c.args.at n le);
      leads = ap (λ t. remove_range t c.args.at (c.args.at + (c.loop-left.left - n))) c.cut-left.ensures.text
          ∙ removed_more s c.args.at n (c.loop-left.left - n) le
          ∙ ap (λ m. remove_range s c.args.at (c.args.at + m)) all ∙ c.loop-left.invariant.leads;
    }
