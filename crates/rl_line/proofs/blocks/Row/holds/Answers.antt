use Rattle.rl_line.proofs.Common.{arith, length, slice_range, sym, take, ◌+◌, ◌∙◌, ◌≤◌}
use Rattle.rl_line.proofs.Lines.BlockLemmas.{all_same, held_all, held_more, not_same, other_bytes, run-take, same_bytes}
use Rattle.rl_line.proofs.blocks.Row.holds.Goals as goal

pub loop-done-preserved : goal.loop-done-preserved
loop-done-preserved g c =
    let n = c.min-count.result in
    let within : c.loop-done.done + n ≤ length c.args.bytes.now = omega (arith, c.min-count.ensures, c.loop-done.invariant.within) in
    let short : n ≤ length c.run-run.result.now = omega (arith, c.min-count.ensures) in
    record {
      within = within;
      same = held_more c.args.self.now c.args.bytes.now c.args.at c.loop-done.done n within c.loop-done.invariant.same
          (sym (run-take c.args.self.now c.run-run.result.now (c.args.at + c.loop-done.done) c.run-run.ensures.stands n short)
          ∙ same_bytes c.ne.result (take n c.run-run.result.now) (slice_range c.args.bytes.now c.loop-done.done (c.loop-done.done + n)) c.ne.ensures c.if-ne.false);
    }

pub returns-then-ne : goal.returns-then-ne
returns-then-ne g c =
    let n = c.min-count.result in
    let within : c.loop-done.done + n ≤ length c.args.bytes.now = omega (arith, c.min-count.ensures, c.loop-done.invariant.within) in
    let short : n ≤ length c.run-run.result.now = omega (arith, c.min-count.ensures) in
    not_same (slice_range c.args.self.now c.args.at (c.args.at + length c.args.bytes.now)) c.args.bytes.now
    (λ e. other_bytes c.ne.result (take n c.run-run.result.now) (slice_range c.args.bytes.now c.loop-done.done (c.loop-done.done + n)) c.ne.ensures c.if-ne.true
    (run-take c.args.self.now c.run-run.result.now (c.args.at + c.loop-done.done) c.run-run.ensures.stands n short
    ∙ held_all c.args.self.now c.args.bytes.now c.args.at c.loop-done.done n within e))

pub returns : goal.returns
returns g c = all_same c.args.self.now c.args.bytes.now c.args.at c.loop-done.done (omega (arith, c.loop-done.invariant.within)) c.loop-done.invariant.same
