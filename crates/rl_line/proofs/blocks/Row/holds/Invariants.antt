use Rattle.rl_line.proofs.Common.{length, slice_range, take, ◌+◌, ◌-◌, ◌≡◌, ◌≤◌}
use Rattle.rl_line.proofs.blocks.Row.holds.Given as goal

-- so much of it was compared
abbrev pub invariant-loop-done : goal.invariant-loop-done
invariant-loop-done g l = record {
  within : l.done ≤ length l.bytes;
  same : slice_range l.self l.at (l.at + l.done) ≡ take l.done l.bytes;
}

abbrev pub decreases-loop-done : goal.decreases-loop-done
decreases-loop-done g l = length l.bytes - l.done
