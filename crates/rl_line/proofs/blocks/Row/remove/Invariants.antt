use Rattle.rl_line.proofs.Common.{length, remove_range, ◌+◌, ◌≡◌, ◌≤◌}
use Rattle.rl_line.proofs.blocks.Row.remove.Given as goal

-- so many are left to take out
abbrev pub invariant-loop-left : goal.invariant-loop-left
invariant-loop-left g l = record {
  within : l.at + l.left ≤ length l.self;
  leads : remove_range l.self l.at (l.at + l.left) ≡ remove_range l.fn.self l.at (l.at + l.count);
}

abbrev pub decreases-loop-left : goal.decreases-loop-left
decreases-loop-left g l = l.left
