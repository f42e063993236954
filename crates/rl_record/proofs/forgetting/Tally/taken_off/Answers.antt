use Rattle.rl_record.proofs.Common.{arith}
use Rattle.rl_record.proofs.Records.TallyLemmas.{held-before}
use Rattle.rl_record.proofs.forgetting.Tally.taken_off.Goals as goal

pub overflow_sub-held : goal.overflow_sub-held
overflow_sub-held c =
    let sum = held-before c.args.entries.now c.loop-counted.counted c.size-held.result c.index-entries-counted.result (omega (arith, c.loop-counted-test.true)) c.loop-counted.invariant.within c.index-entries-counted.is c.size-held.ensures in
    omega (arith, sum, c.loop-counted.invariant.held)

pub loop-counted-preserved : goal.loop-counted-preserved
loop-counted-preserved c =
    let sum = held-before c.args.entries.now c.loop-counted.counted c.size-held.result c.index-entries-counted.result (omega (arith, c.loop-counted-test.true)) c.loop-counted.invariant.within c.index-entries-counted.is c.size-held.ensures in
    record {
      within = omega (arith, c.loop-counted.invariant.within);
      held = omega (arith, sum, c.loop-counted.invariant.held);
      least = omega (arith, c.loop-counted.invariant.least, c.loop-counted-test.true);
    }
