use Rattle.rl_base.proofs.Common.{◌≡◌, length}
use Rattle.rl_base.specs.Checksum.{after_eight, all_pieces, past_pieces}
use Rattle.rl_base.proofs.checksum.after_eights.Given as goal

abbrev pub invariant-loop-rest : goal.invariant-loop-rest
invariant-loop-rest l = record {
  taken : all_pieces after_eight 8 l.mixed l.rest ≡ all_pieces after_eight 8 l.fn.sum l.bytes;
  rest : past_pieces 8 l.rest ≡ past_pieces 8 l.bytes;
}

abbrev pub decreases-loop-rest : goal.decreases-loop-rest
decreases-loop-rest l = length l.rest
