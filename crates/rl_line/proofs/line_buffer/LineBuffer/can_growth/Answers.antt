use Rattle.rl_line.proofs.Common.{rules}
use Rattle.rl_line.proofs.line_buffer.LineBuffer.can_growth.Goals as goal

pub returns : goal.returns
returns c = search rules
