use Rattle.rl_line.proofs.Common.{from_end, get_or_default, map_over_more, rules}
use Rattle.rl_line.proofs.line_starts.turn.Goals as goal

pub loop-place-preserved : goal.loop-place-preserved
loop-place-preserved c =
    map_over_more (from_end c.args.len) c.args.places.now c.loop-place.places c.loop-place.place-index _ c.loop-place-test.true c.loop-place.invariant
    (get_or_default c.loop-place.places c.loop-place.place-index 0 _ (search rules))
