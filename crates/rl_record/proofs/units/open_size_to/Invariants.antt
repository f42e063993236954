use Rattle.rl_record.proofs.Records.EntryLemmas.{SizeAt}
use Rattle.rl_record.proofs.units.open_size_to.Given as goal

abbrev pub invariant-loop-at : goal.invariant-loop-at
invariant-loop-at l = SizeAt l.entries l.at l.depth l.units

abbrev pub decreases-loop-at : goal.decreases-loop-at
decreases-loop-at l = l.at
