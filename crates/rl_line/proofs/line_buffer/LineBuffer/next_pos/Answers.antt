use Rattle.rl_line.proofs.Common.{rules}
use Rattle.rl_line.proofs.line_buffer.LineBuffer.next_pos.Goals as goal

pub returns-clause-place : goal.returns-clause-place
returns-clause-place c = search rules
