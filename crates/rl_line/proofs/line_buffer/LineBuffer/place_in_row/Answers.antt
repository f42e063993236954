use Rattle.std.proofs.Common.{arith, rules}
use Rattle.rl_line.proofs.line_buffer.LineBuffer.place_in_row.Goals as goal

pub overflow_add-result : goal.overflow_add-result
overflow_add-result c = search (rules, arith)
