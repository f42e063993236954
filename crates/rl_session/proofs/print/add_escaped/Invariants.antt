use Rattle.rl_session.proofs.Common.{◌≡◌, ◌++◌, length, escaped}
use Rattle.rl_session.proofs.print.add_escaped.Given as goal

abbrev pub invariant-loop-rest : goal.invariant-loop-rest
invariant-loop-rest l = l.out.items ++ escaped l.spaces l.rest ≡ l.fn.out.items ++ escaped l.spaces l.text

abbrev pub decreases-loop-rest : goal.decreases-loop-rest
decreases-loop-rest l = length l.rest
