use Rattle.rl_record.proofs.Common.{entry_of, flipped, length, map, reverse, vec_capacity, vec_len, ◌++◌, ◌+◌, ◌≡◌, ◌≤◌}
use Rattle.rl_record.proofs.entries.groups.push_turned.Given as goal

abbrev pub invariant-loop-change : goal.invariant-loop-change
invariant-loop-change l = record {
  total : map entry_of l.entries.items ++ map flipped (reverse (map entry_of l.back.items)) ≡ map entry_of l.fn.entries.items ++ map flipped (reverse (map entry_of l.fn.back.items));
  room : vec_len l.entries + vec_len l.back ≤ vec_capacity l.entries;
}

abbrev pub decreases-loop-change : goal.decreases-loop-change
decreases-loop-change l = length l.back.items
