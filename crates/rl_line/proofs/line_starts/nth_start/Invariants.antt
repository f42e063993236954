use Rattle.rl_line.proofs.Common.{is_byte, length, places, ◌++◌, ◌≡◌, ◌≤◌}
use Rattle.rl_line.proofs.line_starts.nth_start.Given as goal

abbrev pub invariant-loop-newline : goal.invariant-loop-newline
invariant-loop-newline l =
    record {
      all : l.yielded ++ l.newline-iterator ≡ places (is_byte 10) l.fn.text;
      count : l.n ≡ length l.yielded;
      before : l.n ≤ l.fn.k;
    }
