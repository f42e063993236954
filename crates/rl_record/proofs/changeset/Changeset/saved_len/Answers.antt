use Rattle.rl_record.proofs.Common.{Entry, List, Record, length, min, subst, ◌-◌, ◌^◌, ◌≡◌}
use Rattle.rl_record.proofs.Records.BytesLemmas.{record-length}
use Rattle.rl_record.specs.SavedRecord.{saved_entries, saved_record}
use Rattle.rl_record.proofs.changeset.Changeset.saved_len.Goals as goal

pub returns : goal.returns
returns c =
    let counted = subst (λ (es : List Entry). c.entries_len.result ≡ min (length (saved_entries es)) (2 ^ 64 - 1)) c.all.ensures c.entries_len.ensures in
    subst (λ (r : Record). c.saturating_add.result ≡ min (length (saved_record r)) (2 ^ 64 - 1)) c.self.view_is
    (record-length c.self.inside.entries c.entries_len.result c.saturating_add.result counted c.saturating_add.ensures)
