use Rattle.rl_record.proofs.Common.{arith, common_steps}
use Rattle.rl_record.proofs.changeset.questions.last_text.Goals as goal

pub loop-left-preserved : goal.loop-left-preserved
loop-left-preserved c = grind (arith, common_steps)
