use Rattle.rl_record.proofs.Common.{entry_of, map, take, ◌≤◌}
use Rattle.rl_record.proofs.Records.MatchLemmas.{MarkedTo}
use Rattle.rl_record.proofs.units.matched_level.Given as goal

-- the entries so far are matched
abbrev pub invariant-loop-entry : goal.invariant-loop-entry
invariant-loop-entry l = record {
  marked : MarkedTo (take l.entry-index (map entry_of l.entries)) l.level l.after_begin;
  small : l.level ≤ l.entry-index;
}
