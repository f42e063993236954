use Rattle.rl_base.proofs.Common.{◌≡◌, length}
use Rattle.rl_base.specs.Checksum.{after_four, all_pieces, past_pieces}
use Rattle.rl_base.proofs.checksum.after_fours.Given as goal

abbrev pub invariant-loop-rest : goal.invariant-loop-rest
invariant-loop-rest l = record {
  taken : all_pieces after_four 4 l.mixed l.rest ≡ all_pieces after_four 4 l.fn.sum l.bytes;
  rest : past_pieces 4 l.rest ≡ past_pieces 4 l.bytes;
}

abbrev pub decreases-loop-rest : goal.decreases-loop-rest
decreases-loop-rest l = length l.rest
