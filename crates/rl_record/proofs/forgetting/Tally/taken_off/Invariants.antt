use Rattle.rl_record.proofs.Common.{bytes_held, entry_of, length, map, min, take, ◌≡◌, ◌≤◌}
use Rattle.rl_record.proofs.forgetting.Tally.taken_off.Given as goal

abbrev pub invariant-loop-counted : goal.invariant-loop-counted
invariant-loop-counted l = record {
  within : l.counted ≤ length l.entries;
  held : bytes_held (take l.counted (map entry_of l.entries)) ≡ l.held;
  least : min l.counted l.len ≡ min l.self.counted l.len;
}

abbrev pub decreases-loop-counted : goal.decreases-loop-counted
decreases-loop-counted l = l.counted
