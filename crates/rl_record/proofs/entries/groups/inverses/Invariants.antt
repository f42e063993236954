use Rattle.rl_record.proofs.Common.{entry_of, inverse, map, take, ◌≡◌}
use Rattle.rl_record.proofs.entries.groups.inverses.Given as goal

abbrev pub invariant-loop-entry : goal.invariant-loop-entry
invariant-loop-entry l = record {
  made : map entry_of l.made.items ≡ map inverse (map entry_of (take l.entry-index l.entries));
}
