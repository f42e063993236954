use Rattle.rl_record.proofs.Common.{All, IsUtf8, ap, append_assoc, get_or, subst, sym, ◌++◌, ◌∙◌}
use Rattle.rl_base.specs.Saving.{Fits, numbers}
use Rattle.rl_base.specs.declared.saving.Width.TheVariants.{Four}
use Rattle.rl_line.proofs.Lines.BlockLemmas.{same_bytes}
use Rattle.rl_record.proofs.Records.BytesLemmas.{IsSavedEntry-of}
use Rattle.rl_record.specs.SavedRecord.{saved_entry}
use Rattle.rl_record.proofs.changeset.saved.load_entry.Goals as goal

pub returns-clause-read : goal.returns-clause-read
unfolding saved_entry
returns-clause-read c =
    let change = c.in_ok-change.change in
    let head = c.numbers.new.found in
    let read = c.numbers.ensures.read c.if-not-numbers.false in
    let old = c.in-Some.ensures.read in
    let new = c.in-Some-text.ensures.read in
    let left = c.text-2.new.self in
    let same = sym c.numbers_of.ensures ∙ same_bytes c.ne.result c.numbers_of.result head c.ne.ensures c.if-ne.false in
    let texts = c.in_ok-change.ensures.texts (ap (λ h. get_or h 4 0) same ∙ sym old.1) (ap (λ h. get_or h 5 0) same ∙ sym new.1) in (
      rw (same, texts.0, texts.1, read.0, old.0, new.0) (ap (λ after. numbers Four head ++ after) (sym (append_assoc c.in-Some.old.now c.in-Some-text.new.now left)) ∙ sym (append_assoc (numbers Four head) (c.in-Some.old.now ++ c.in-Some-text.new.now) left)),
      IsSavedEntry-of change (subst (All (Fits Four)) (sym same) read.1) (subst IsUtf8 (sym texts.0) old.2) (subst IsUtf8 (sym texts.1) new.2),
    )
