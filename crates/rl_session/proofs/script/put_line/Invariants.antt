use Rattle.rl_session.proofs.Common.{◌-◌, ◌≤◌, length, take, Appends}
use Rattle.rl_session.proofs.script.put_line.Given as goal

abbrev pub invariant-loop-done : goal.invariant-loop-done
invariant-loop-done g l = record {
  within : l.done ≤ length l.line;
  written : Appends (g.W.Write.contents l.fn.writer) (g.W.Write.contents l.writer) (take l.done l.line);
}

abbrev pub decreases-loop-done : goal.decreases-loop-done
decreases-loop-done g l = length l.line - l.done
