use Rattle.rl_session.proofs.Common.{◌≡◌, ◌≤◌, drop, value_from, are_digits}
use Rattle.rl_session.proofs.spelling.number.Given as goal

abbrev pub invariant-loop-b : goal.invariant-loop-b
invariant-loop-b l = record {
  value : value_from l.value (drop l.b-index l.b-items) ≡ value_from 0 l.b-items;
  digits : are_digits (drop l.b-index l.b-items) ≡ are_digits l.b-items;
  bound : l.value ≤ l.greatest;
}
