use Rattle.rl_record.proofs.Common.{length, ◌-◌, ◌≡◌}
use Rattle.rl_record.proofs.Records.TallyLemmas.{CountedOn}
use Rattle.rl_record.proofs.forgetting.hold_at_most.Given as goal

abbrev pub invariant-loop-at : goal.invariant-loop-at
invariant-loop-at l = record {
  counted : CountedOn l.entries l.bytes l.at l.held l.tally;
  opened : l.tally.opened ≡ l.fn.tally.opened;
}

abbrev pub decreases-loop-at : goal.decreases-loop-at
decreases-loop-at l = length l.entries - l.at
