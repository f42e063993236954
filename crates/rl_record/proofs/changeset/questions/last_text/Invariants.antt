use Rattle.rl_record.proofs.Common.{entry_of, last_insert, length, map, put_in_first, reverse, take, ◌≡◌, ◌≤◌}
use Rattle.rl_record.proofs.changeset.questions.last_text.Given as goal

abbrev pub invariant-loop-left : goal.invariant-loop-left
invariant-loop-left l = record {
  rest : put_in_first (reverse (map entry_of (take l.left l.entries))) ≡ last_insert (map entry_of l.entries);
  within : l.left ≤ length l.entries;
}

abbrev pub decreases-loop-left : goal.decreases-loop-left
decreases-loop-left l = l.left
