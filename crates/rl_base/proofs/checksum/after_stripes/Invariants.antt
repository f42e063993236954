use Rattle.rl_base.proofs.Common.{◌≡◌, length}
use Rattle.rl_base.specs.Checksum.{after_stripe, all_pieces, lanes, past_pieces}
use Rattle.rl_base.proofs.checksum.after_stripes.Given as goal

abbrev pub invariant-loop-rest : goal.invariant-loop-rest
invariant-loop-rest l = record {
  taken : all_pieces after_stripe 32 l.lanes l.rest ≡ all_pieces after_stripe 32 lanes l.bytes;
  rest : past_pieces 32 l.rest ≡ past_pieces 32 l.bytes;
}

abbrev pub decreases-loop-rest : goal.decreases-loop-rest
decreases-loop-rest l = length l.rest
