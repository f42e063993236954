use Rattle.rl_record.proofs.Common.{length, ◌-◌, ◌≤◌}
use Rattle.rl_record.proofs.Records.TallyLemmas.{OpenAt}
use Rattle.rl_record.proofs.units.stays_open.Given as goal

abbrev pub invariant-loop-at : goal.invariant-loop-at
invariant-loop-at l = record {
  stays : OpenAt l.entries l.at l.groups;
  cut : length l.entries - l.at ≤ length l.entries - l.from;
}

abbrev pub decreases-loop-at : goal.decreases-loop-at
decreases-loop-at l = l.at - l.from
