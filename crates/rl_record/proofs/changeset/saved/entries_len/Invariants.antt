use Rattle.rl_record.proofs.Common.{entry_of, length, map, min, take, ◌-◌, ◌^◌, ◌≡◌}
use Rattle.rl_record.specs.SavedRecord.{saved_entries}
use Rattle.rl_record.proofs.changeset.saved.entries_len.Given as goal

-- those so far are counted
abbrev pub invariant-loop-change : goal.invariant-loop-change
invariant-loop-change l = l.len ≡ min (length (saved_entries (take l.change-index (map entry_of l.changes)))) (2 ^ 64 - 1)
