use Rattle.rl_record.proofs.Common.{All, Entry, List, drop, entry_of, length, map, take, ℕ, ◌++◌, ◌≡◌}
use Rattle.rl_record.specs.SavedRecord.{IsSavedEntry, saved_entries}
use Rattle.rl_record.proofs.changeset.saved.load_entries.Given as goal

-- those so far were read, and the others stand next; saved again, those so far and what is left are the bytes
abbrev pub invariant-loop-i : goal.invariant-loop-i
invariant-loop-i l = record {
  read : (es : List Entry) (rest : List ℕ) → length es ≡ l.count → All IsSavedEntry es → l.fn.bytes ≡ saved_entries es ++ rest
      → (map entry_of l.made.items ≡ take l.i es) × (l.bytes ≡ saved_entries (drop l.i es) ++ rest);
  again : l.fn.bytes ≡ saved_entries (map entry_of l.made.items) ++ l.bytes;
  saved : All IsSavedEntry (map entry_of l.made.items);
}
