use Rattle.rl_line.proofs.Common.{length, ◌≤◌}
use Rattle.rl_line.proofs.going.gap_range.Given as goal

abbrev pub invariant-loop-left : goal.invariant-loop-left
invariant-loop-left l = l.left ≤ length l.fn.changes

abbrev pub decreases-loop-left : goal.decreases-loop-left
decreases-loop-left l = l.left
