use Rattle.rl_record.proofs.Common.{entry_of, length, map, max, reverse, take, ◌+◌, ◌-◌, ◌≡◌, ◌≤◌}
use Rattle.rl_record.proofs.Records.Counts.{back_len}
use Rattle.rl_record.proofs.units.last_len.Given as goal

abbrev pub invariant-loop-at : goal.invariant-loop-at
invariant-loop-at l = record {
  in_range : l.at ≤ length l.entries;
  shallow : l.depth + l.at ≤ length l.entries;
  counted : (length l.entries - l.at) + back_len l.depth l.units (reverse (map entry_of (take l.at l.entries)))
      ≡ back_len 0 (max l.fn.n 1) (reverse (map entry_of l.entries));
}

abbrev pub decreases-loop-at : goal.decreases-loop-at
decreases-loop-at l = l.at
