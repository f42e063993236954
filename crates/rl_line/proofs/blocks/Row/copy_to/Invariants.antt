use Rattle.rl_line.proofs.Common.{length, take, ◌++◌, ◌-◌, ◌≡◌, ◌≤◌}
use Rattle.rl_line.proofs.blocks.Row.copy_to.Given as goal

-- so many are copied
abbrev pub invariant-loop-done : goal.invariant-loop-done
invariant-loop-done g l = record {
  within : l.done ≤ length l.self;
  so_far : l.out.items ≡ l.fn.out.items ++ take l.done l.self;
}

abbrev pub decreases-loop-done : goal.decreases-loop-done
decreases-loop-done g l = length l.self - l.done
