use Rattle.rl_session.proofs.Common.{◌≡◌, ◌<◌, ◌^◌, drop, hex_from}
use Rattle.rl_session.proofs.spelling.named_char.Given as goal

abbrev pub invariant-loop-b : goal.invariant-loop-b
invariant-loop-b l = record {
  value : hex_from l.value (drop l.b-index l.b-items) ≡ hex_from 0 l.b-items;
  small : l.value < 16 ^ l.b-index;
}
