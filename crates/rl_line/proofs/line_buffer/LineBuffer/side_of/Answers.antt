use Rattle.rl_line.proofs.Common.{rules}
use Rattle.rl_line.proofs.line_buffer.LineBuffer.side_of.Goals as goal

pub returns-in-BeginningOfLine : goal.returns-in-BeginningOfLine
returns-in-BeginningOfLine c = search rules
