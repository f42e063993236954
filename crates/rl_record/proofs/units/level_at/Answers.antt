use Rattle.rl_record.proofs.Common.{arith, refl}
use Rattle.rl_record.proofs.Records.LevelLemmas.{LevelAt-done, opened-before}
use Rattle.rl_record.proofs.units.level_at.Goals as goal

pub overflow_sub-level : goal.overflow_sub-level
overflow_sub-level c = omega (arith, opened-before c.args.entries.now c.args.len c.loop-at.at c.loop-at.level _ _ c.loop-at-test.true c.in-Begin.is refl c.loop-at.invariant)

pub returns : goal.returns
returns c = LevelAt-done c.args.entries.now c.args.len c.loop-at.at c.loop-at.level (omega (arith, c.loop-at-test.false)) c.loop-at.invariant
