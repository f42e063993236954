use Rattle.rl_line.proofs.Common.{ap, arith, drop, drop_split, insert_slice, length, slice_range, sym, ◌∙◌, ◌≤◌}
use Rattle.rl_line.proofs.Lines.BlockLemmas.{inserted_before, inserted_none, length-inserted}
use Rattle.rl_line.proofs.blocks.Row.insert.Goals as goal

pub loop-left-init : goal.loop-left-init
loop-left-init g c = record { within = omega arith; place = c.requires; so_far = inserted_none c.args.self.now c.args.bytes.now c.args.at }

pub loop-left-preserved : goal.loop-left-preserved
loop-left-preserved g c =
    let start = c.saturating_sub-start.result in
    let piece = slice_range c.args.bytes.now start c.loop-left.left in
    let le : start ≤ c.loop-left.left = omega (arith, c.saturating_sub-start.ensures) in
    record {
      within = omega (arith, c.loop-left.invariant.within, le);
      place = omega (arith, c.loop-left.invariant.place, ap length c.in_ok-place.ensures.ok, length-inserted c.loop-left.self piece c.args.at);
      so_far = c.in_ok-place.ensures.ok ∙ ap (λ t. insert_slice t c.args.at piece) c.loop-left.invariant.so_far
          ∙ inserted_before c.args.self.now piece (drop c.loop-left.left c.args.bytes.now) c.args.at c.requires
          ∙ ap (insert_slice c.args.self.now c.args.at) (sym (drop_split c.args.bytes.now start c.loop-left.left le));
    }
