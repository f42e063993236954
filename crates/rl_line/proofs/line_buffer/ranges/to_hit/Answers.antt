use Rattle.rl_line.proofs.Common.{rules}
use Rattle.rl_line.proofs.line_buffer.ranges.to_hit.Goals as goal

pub returns-in-ForwardBefore-clause-value : goal.returns-in-ForwardBefore-clause-value
returns-in-ForwardBefore-clause-value c = search rules
