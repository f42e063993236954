use Rattle.rl_line.proofs.Common.{drop, entry_to_undo, greatest_back_over, length, length_back_over, map, order, ◌≡◌, ◌≤◌}
use Rattle.rl_line.proofs.change.over.keeps_to.Given as goal

abbrev pub invariant-loop-left : goal.invariant-loop-left
invariant-loop-left l = record {
  long : l.long ≡ length_back_over (map (entry_to_undo l.way) (drop l.left (order l.way l.changes))) l.len;
  so_far : greatest_back_over (map (entry_to_undo l.way) (drop l.left (order l.way l.changes))) l.len ≤ l.limit;
  short : l.long ≤ l.limit;
  within : l.left ≤ length l.changes;
}

abbrev pub decreases-loop-left : goal.decreases-loop-left
decreases-loop-left l = l.left
