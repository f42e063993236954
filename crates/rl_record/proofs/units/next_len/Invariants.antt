use Rattle.rl_record.proofs.Common.{length, ◌-◌}
use Rattle.rl_record.proofs.Records.EntryLemmas.{Counted}
use Rattle.rl_record.proofs.units.next_len.Given as goal

abbrev pub invariant-loop-at : goal.invariant-loop-at
invariant-loop-at l = Counted l.entries l.at l.level

abbrev pub decreases-loop-at : goal.decreases-loop-at
decreases-loop-at l = length l.entries - l.at
