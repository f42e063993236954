use Rattle.rl_line.proofs.Common.{drop, entry_of, has_change, map, ◌≡◌}
use Rattle.rl_line.proofs.change.over.has_change.Given as goal

abbrev pub invariant-loop-entry : goal.invariant-loop-entry
invariant-loop-entry l = has_change (map entry_of (drop l.entry-index l.entries)) ≡ has_change (map entry_of l.entries)
