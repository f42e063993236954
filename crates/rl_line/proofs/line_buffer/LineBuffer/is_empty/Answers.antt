use Rattle.rl_line.proofs.Common.{arith, common_steps}
use Rattle.rl_line.proofs.line_buffer.LineBuffer.is_empty.Goals as goal

pub returns : goal.returns
returns c = grind (arith, common_steps)
