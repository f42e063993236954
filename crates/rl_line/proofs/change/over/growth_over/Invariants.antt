use Rattle.rl_line.proofs.Common.{drop, entry_to_undo, greatest_back_over, length, length_back_over, map, order, ◌≡◌, ◌≤◌}
use Rattle.rl_line.proofs.change.over.growth_over.Given as goal

abbrev pub invariant-loop-left : goal.invariant-loop-left
invariant-loop-left l = record {
  long : l.long ≡ length_back_over (map (entry_to_undo l.way) (drop l.left (order l.way l.changes))) l.len;
  longest : l.longest ≡ greatest_back_over (map (entry_to_undo l.way) (drop l.left (order l.way l.changes))) l.len;
  longer : l.len ≤ l.longest;
  within : l.left ≤ length l.changes;
}

abbrev pub decreases-loop-left : goal.decreases-loop-left
decreases-loop-left l = l.left
