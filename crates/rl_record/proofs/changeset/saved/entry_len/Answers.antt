use Rattle.rl_record.proofs.Common.{arith, entry_of, ◌∙◌}
use Rattle.rl_record.proofs.Records.BytesLemmas.{entry-length, old-inverse}
use Rattle.rl_record.proofs.changeset.saved.entry_len.Goals as goal

pub returns : goal.returns
returns c =
    entry-length (entry_of c.args.change.now) c.texts.result.1.now c.texts-2.result.1.now _ c.texts.ensures.coming
    (c.texts-2.ensures.coming ∙ old-inverse (entry_of c.args.change.now))
    (omega (arith, c.saturating_add.ensures, c.saturating_add-2.ensures))
