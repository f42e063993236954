use Rattle.rl_session.proofs.Common.{List, ℕ, length, IsUtf8}
use Rattle.rl_session.specs.Parsing.{Begins}
use Rattle.rl_session.proofs.spelling.is_well_formed.Given as goal

abbrev pub invariant-loop-after : goal.invariant-loop-after
invariant-loop-after l = record {
  read : (text : List ℕ) × Begins l.escaped text l.rest;
  utf8 : IsUtf8 l.rest;
}

abbrev pub decreases-loop-after : goal.decreases-loop-after
decreases-loop-after l = length l.rest
