use Rattle.rl_record.proofs.Common.{◌-◌}
use Rattle.rl_record.proofs.Records.LevelLemmas.{LevelAt}
use Rattle.rl_record.proofs.units.level_at.Given as goal

abbrev pub invariant-loop-at : goal.invariant-loop-at
invariant-loop-at l = LevelAt l.entries l.len l.at l.level

abbrev pub decreases-loop-at : goal.decreases-loop-at
decreases-loop-at l = l.at - l.len
