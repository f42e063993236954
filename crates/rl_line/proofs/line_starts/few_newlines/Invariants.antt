use Rattle.rl_line.proofs.Common.{count_by, is_newline, take, ◌≡◌}
use Rattle.rl_line.proofs.line_starts.few_newlines.Given as goal

abbrev pub invariant-loop-b : goal.invariant-loop-b
invariant-loop-b l = l.n ≡ count_by is_newline (take l.b-index l.fn.bytes)
