use Rattle.rl_line.proofs.Common.{order}
use Rattle.rl_line.proofs.Changes.WalkLemmas.{WalksOn}
use Rattle.rl_line.proofs.change.over.retraces.Given as goal

-- the changes that are left walk on from the text as it is now
abbrev pub invariant-loop-left : goal.invariant-loop-left
invariant-loop-left l = WalksOn l.way (order l.way l.changes) l.left l.text l.now

abbrev pub decreases-loop-left : goal.decreases-loop-left
decreases-loop-left l = l.left
