use Rattle.rl_line.proofs.Common.{drop, is_byte, length, map, places, ◌++◌, ◌+◌, ◌≡◌}
use Rattle.rl_line.proofs.line_starts.put_after_newlines.Given as goal

abbrev pub invariant-loop-newline : goal.invariant-loop-newline
invariant-loop-newline l =
    record {
      all : l.yielded ++ l.newline-iterator ≡ places (is_byte 10) l.fn.part;
      count : l.n ≡ length l.yielded;
      puts : l.places ≡ map (λ p. (l.fn.at + 1) + p) l.yielded ++ drop l.n l.fn.places;
    }
