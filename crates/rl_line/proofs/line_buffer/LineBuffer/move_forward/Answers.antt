use Rattle.rl_line.proofs.Common.{rules}
use Rattle.rl_line.proofs.line_buffer.LineBuffer.move_forward.Goals as goal

pub returns : goal.returns
returns c = search rules
