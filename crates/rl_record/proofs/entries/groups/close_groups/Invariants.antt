use Rattle.rl_record.proofs.Common.{adds_end, end_times, entry_of, map, true, vec_capacity, vec_len, ◌+◌, ◌-◌, ◌≡◌, ◌≤◌}
use Rattle.rl_record.proofs.entries.groups.close_groups.Given as goal

abbrev pub invariant-loop : goal.invariant-loop
invariant-loop l = record {
  entries : end_times (l.count - l.counter) (map entry_of l.entries.items) ≡ end_times l.count (map entry_of l.fn.entries.items);
  room : adds_end (l.count - l.counter) (map entry_of l.entries.items) ≡ true → vec_len l.entries + (l.count - l.counter) ≤ vec_capacity l.entries;
  len : vec_len l.entries ≤ vec_len l.fn.entries + l.counter;
  capacity : vec_capacity l.fn.entries ≤ vec_capacity l.entries;
}
