use Rattle.rl_line.proofs.Common.{rules}
use Rattle.rl_line.proofs.line_buffer.LineBuffer.move_to_place.Goals as goal

pub returns-in-Some : goal.returns-in-Some
returns-in-Some c = search rules
