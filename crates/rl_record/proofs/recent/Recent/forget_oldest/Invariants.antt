use Rattle.rl_record.proofs.Common.{IsMatched, forgotten, length, level, ◌≡◌}
use Rattle.rl_record.proofs.recent.Recent.forget_oldest.Given as goal

abbrev pub invariant-loop-self : goal.invariant-loop-self
invariant-loop-self l = record {
  forgotten : forgotten l.most l.bytes l.self ≡ forgotten l.most l.bytes l.fn.self;
  matched : IsMatched l.self.recorded;
  groups : l.groups ≡ level l.self.recorded;
}

abbrev pub decreases-loop-self : goal.decreases-loop-self
decreases-loop-self l = length l.self.recorded
