use Rattle.rl_line.proofs.Common.{rules}
use Rattle.rl_line.proofs.line_buffer.LineBuffer.is_end_of_input.Goals as goal

pub returns : goal.returns
returns c = search rules
