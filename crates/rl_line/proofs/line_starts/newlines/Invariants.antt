use Rattle.rl_line.proofs.Common.{count_by, is_newline, length, take, ◌-◌, ◌≡◌, ◌≤◌}
use Rattle.rl_line.proofs.line_starts.newlines.Given as goal

abbrev pub invariant-loop-at : goal.invariant-loop-at
invariant-loop-at l =
    record {
      counted : l.n ≡ count_by is_newline (take l.at l.fn.bytes);
      within : l.at ≤ length l.fn.bytes;
    }

abbrev pub decreases-loop-at : goal.decreases-loop-at
decreases-loop-at l = length l.fn.bytes - l.at
