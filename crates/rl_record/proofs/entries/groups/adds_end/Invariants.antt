use Rattle.rl_record.proofs.Common.{adds_end, entry_of, length, map, take, ◌≡◌, ◌≤◌}
use Rattle.rl_record.proofs.entries.groups.adds_end.Given as goal

abbrev pub invariant-loop-left : goal.invariant-loop-left
invariant-loop-left l = record {
  rest : adds_end l.left (map entry_of (take l.at l.entries)) ≡ adds_end l.fn.count (map entry_of l.entries);
  within : l.at ≤ length l.entries;
}

abbrev pub decreases-loop-left : goal.decreases-loop-left
decreases-loop-left l = l.left
