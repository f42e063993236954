use Rattle.rl_line.proofs.Common.{drop, from_end, map, take, ◌++◌, ◌≡◌}
use Rattle.rl_line.proofs.line_starts.turn.Given as goal

abbrev pub invariant-loop-place : goal.invariant-loop-place
invariant-loop-place l = l.places ≡ map (from_end l.len) (take l.place-index l.fn.places) ++ drop l.place-index l.fn.places
