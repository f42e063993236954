use Rattle.rl_line.proofs.Common.{rules}
use Rattle.rl_line.proofs.line_buffer.line_motions.column_below.Goals as goal

pub returns-then-k-eq0 : goal.returns-then-k-eq0
returns-then-k-eq0 c = search rules
