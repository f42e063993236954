use Rattle.rl_record.proofs.Common.{deep, entry_of, map, take, ◌≡◌, ◌≤◌}
use Rattle.rl_record.proofs.units.level.Given as goal

abbrev pub invariant-loop-entry : goal.invariant-loop-entry
invariant-loop-entry l = record {
  counted : l.level ≡ deep 0 (map entry_of (take l.entry-index l.entries));
  small : l.level ≤ l.entry-index;
}
