use Rattle.rl_record.proofs.Common.{change_count, deep, entry_of, map, take, ◌≡◌, ◌≤◌}
use Rattle.rl_record.proofs.units.level_and_changes.Given as goal

abbrev pub invariant-loop-entry : goal.invariant-loop-entry
invariant-loop-entry l = record {
  counted : l.level ≡ deep 0 (map entry_of (take l.entry-index l.entries));
  changes : l.changes ≡ change_count (map entry_of (take l.entry-index l.entries));
  small : l.level ≤ l.entry-index;
  few : l.changes ≤ l.entry-index;
}
