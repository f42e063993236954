use Rattle.rl_line.proofs.Common.{Bool, Change, List, Way, bytes_back, entry_to_undo, length, map, order, ℕ, ◌+◌, ◌<◌}
use Rattle.rl_line.proofs.Changes.ChangeLemmas.{GoesOver}
use Rattle.rl_line.proofs.change.over.patch_over.Given as goal

-- the changes that are left lead on from the text as it is now, which is not empty only where there was a text, or one came
pub record Over (asks : Bool) (way : Way) (changes : List Change) (n : ℕ) (text now : List ℕ) : Type 0 where
  pub rest : GoesOver asks way (order way changes) n text now
  pub some : 0 < length now → 0 < length text + bytes_back (map (entry_to_undo way) (order way changes))

abbrev pub invariant-loop-left : goal.invariant-loop-left
invariant-loop-left l = Over l.asks l.way l.changes l.left l.text l.now

abbrev pub decreases-loop-left : goal.decreases-loop-left
decreases-loop-left l = l.left
