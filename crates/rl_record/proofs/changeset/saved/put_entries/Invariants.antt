use Rattle.rl_record.proofs.Common.{All, entry_of, map, take, ◌++◌, ◌≡◌}
use Rattle.rl_record.specs.SavedRecord.{IsSavedEntry, saved_entries}
use Rattle.rl_record.proofs.changeset.saved.put_entries.Given as goal

-- those so far were put
abbrev pub invariant-loop-change : goal.invariant-loop-change
invariant-loop-change l = record {
  put : l.out.items ≡ l.fn.out.items ++ saved_entries (take l.change-index (map entry_of l.changes));
  loads : All IsSavedEntry (take l.change-index (map entry_of l.changes));
}
