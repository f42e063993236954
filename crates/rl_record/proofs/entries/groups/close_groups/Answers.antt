use Rattle.rl_record.proofs.Common.{arith, entry_of, map}
use Rattle.rl_record.proofs.Records.EntryLemmas.{adds-here, adds-more, closes-next}
use Rattle.rl_record.proofs.entries.groups.close_groups.Goals as goal

pub close_last-requires : goal.close_last-requires
close_last-requires c = λ none.
    let more = adds-here _ (map entry_of c.loop.entries.items) (omega (arith, c.loop-test.true)) none in omega (arith, c.loop.invariant.room more, c.loop-test.true)

pub loop-preserved : goal.loop-preserved
loop-preserved c =
    let closed = c.close_last.ensures in
    record {
      entries = closes-next c.args.count c.loop.counter (map entry_of c.loop.entries.items) _ _ c.loop-test.true closed.entries c.loop.invariant.entries;
      room = λ adds.
          let more = adds-more c.args.count c.loop.counter (map entry_of c.loop.entries.items) _ c.loop-test.true closed.entries adds in
          omega (arith, c.loop.invariant.room more, closed.len, closed.capacity, c.loop-test.true);
      len = omega (arith, c.loop.invariant.len, closed.len);
      capacity = omega (arith, c.loop.invariant.capacity, closed.capacity);
    }
