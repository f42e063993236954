use Rattle.rl_base.proofs.Common.{arith, ◌∙◌, length}
use Rattle.std.proofs.lemmas.Slice.{between_to_end}
use Rattle.rl_base.specs.Checksum.{after_eight}
use Rattle.rl_base.proofs.Texts.ChecksumLemmas.{past-next, pieces-next}
use Rattle.rl_base.proofs.checksum.after_eights.Goals as goal

pub loop-rest-preserved : goal.loop-rest-preserved
loop-rest-preserved c =
    let rest = c.loop-rest.rest.now in
    rw (between_to_end rest 8 (length rest) (omega arith), c.after_eight-mixed.ensures) record {
      taken = pieces-next after_eight 8 c.loop-rest.mixed rest (omega arith) (omega arith) ∙ c.loop-rest.invariant.taken;
      rest = past-next 8 rest (omega arith) (omega arith) ∙ c.loop-rest.invariant.rest;
    }
