use Rattle.rl_record.proofs.Common.{All, append_assoc, subst, sym}
use Rattle.rl_base.specs.Saving.{Fits, numbers}
use Rattle.rl_base.specs.declared.saving.Width.TheVariants.{Eight}
use Rattle.rl_record.proofs.Records.BytesLemmas.{ok-some}
use Rattle.rl_record.specs.SavedRecord.{IsSavedEntry, saved_entries, saved_record}
use Rattle.std.proofs.lemmas.Option.{IfSome_then}
use Rattle.rl_record.proofs.changeset.Changeset.load.Goals as goal

pub returns-clause-read : goal.returns-clause-read
unfolding saved_record
returns-clause-read c =
    let head = c.numbers.ensures.read c.if-not-numbers.false in
    let list = c.in_ok-list.ensures.read in
    let left = c.load_entries.new.bytes in
    rw c.ok_or.ensures.value (ok-some c.record_of.result _ _ (IfSome_then c.record_of.result c.record_of.ensures.read (λ r made. (
      rw (sym made.0, sym made.1, head.0, list.0) (sym (append_assoc (numbers Eight c.numbers.new.found) (saved_entries _) left)),
      made.2 (subst (All (Fits Eight)) made.0 head.1) (subst (All IsSavedEntry) made.1 list.1),
    ))))
