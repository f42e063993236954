use Rattle.rl_session.proofs.Common.{length, IsUtf8, string_bytes}
use Rattle.rl_session.specs.Parsing.{Begins}
use Rattle.rl_session.proofs.spelling.read_text.Given as goal

abbrev pub invariant-loop-plain : goal.invariant-loop-plain
invariant-loop-plain l = record {
  read : Begins l.escaped (string_bytes l.text) l.rest;
  utf8 : IsUtf8 l.rest;
}

abbrev pub decreases-loop-plain : goal.decreases-loop-plain
decreases-loop-plain l = length l.rest
