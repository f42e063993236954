use Rattle.rl_base.proofs.Common.{arith, ◌∙◌, length}
use Rattle.std.proofs.lemmas.Slice.{between_to_end}
use Rattle.rl_base.specs.Checksum.{after_stripe}
use Rattle.rl_base.proofs.Texts.ChecksumLemmas.{past-next, pieces-next}
use Rattle.rl_base.proofs.checksum.after_stripes.Goals as goal

pub loop-rest-preserved : goal.loop-rest-preserved
loop-rest-preserved c =
    let rest = c.loop-rest.rest.now in
    rw (between_to_end rest 32 (length rest) (omega arith), c.after_stripe-lanes.ensures) record {
      taken = pieces-next after_stripe 32 c.loop-rest.lanes rest (omega arith) (omega arith) ∙ c.loop-rest.invariant.taken;
      rest = past-next 32 rest (omega arith) (omega arith) ∙ c.loop-rest.invariant.rest;
    }
