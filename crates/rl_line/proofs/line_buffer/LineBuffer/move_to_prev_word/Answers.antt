use Rattle.rl_line.proofs.Common.{rules}
use Rattle.rl_line.proofs.line_buffer.LineBuffer.move_to_prev_word.Goals as goal

pub returns : goal.returns
returns c = search rules
