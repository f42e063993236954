use Rattle.rl_base.proofs.Common.{arith, ◌∙◌, length}
use Rattle.std.proofs.lemmas.Slice.{between_to_end}
use Rattle.rl_base.specs.Checksum.{after_four}
use Rattle.rl_base.proofs.Texts.ChecksumLemmas.{past-next, pieces-next}
use Rattle.rl_base.proofs.checksum.after_fours.Goals as goal

pub loop-rest-preserved : goal.loop-rest-preserved
loop-rest-preserved c =
    let rest = c.loop-rest.rest.now in
    rw (between_to_end rest 4 (length rest) (omega arith), c.after_four-mixed.ensures) record {
      taken = pieces-next after_four 4 c.loop-rest.mixed rest (omega arith) (omega arith) ∙ c.loop-rest.invariant.taken;
      rest = past-next 4 rest (omega arith) (omega arith) ∙ c.loop-rest.invariant.rest;
    }
