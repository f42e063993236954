use Rattle.rl_session.proofs.Common.{◌-◌, ◌≤◌, length, ArePlain}
use Rattle.rl_session.proofs.print.plain_len.Given as goal

abbrev pub invariant-loop-i : goal.invariant-loop-i
invariant-loop-i l = record {
  within : l.i ≤ length l.text;
  plain : ArePlain l.spaces l.text 0 l.i;
}

abbrev pub decreases-loop-i : goal.decreases-loop-i
decreases-loop-i l = l.last - l.i
