use Rattle.rl_base.proofs.Common.{◌-◌, ◌≤◌, length}
use Rattle.memchr.specs.Find.{Nowhere, OccursAt}
use Rattle.rl_base.proofs.places.bytes.first_occurrence.Given as goal

-- the needle stands nowhere before `start`
abbrev pub invariant-loop-tries : goal.invariant-loop-tries
invariant-loop-tries l =
    record {
      within : l.start ≤ length l.hay;
      tries : l.tries ≤ l.start;
      none : Nowhere (OccursAt l.hay l.needle) 0 l.start;
    }

abbrev pub decreases-loop-tries : goal.decreases-loop-tries
decreases-loop-tries l = length l.hay - l.start
