use Rattle.rl_line.proofs.Common.{drop, insert_slice, length, ◌≡◌, ◌≤◌}
use Rattle.rl_line.proofs.blocks.Row.insert.Given as goal

-- the others are put in
abbrev pub invariant-loop-left : goal.invariant-loop-left
invariant-loop-left g l = record {
  within : l.left ≤ length l.bytes;
  place : l.at ≤ length l.self;
  so_far : l.self ≡ insert_slice l.fn.self l.at (drop l.left l.bytes);
}

abbrev pub decreases-loop-left : goal.decreases-loop-left
decreases-loop-left g l = l.left
