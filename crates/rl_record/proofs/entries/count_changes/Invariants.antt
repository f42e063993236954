use Rattle.rl_record.proofs.Common.{change_count, entry_of, map, take, ◌≡◌, ◌≤◌}
use Rattle.rl_record.proofs.entries.count_changes.Given as goal

abbrev pub invariant-loop-entry : goal.invariant-loop-entry
invariant-loop-entry l = record {
  counted : l.count ≡ change_count (map entry_of (take l.entry-index l.entries));
  small : l.count ≤ l.entry-index;
}
