use Rattle.rl_record.proofs.Common.{ap, arith, entry_of, length, length-map, map, min, take_all, ◌-◌, ◌^◌, ◌∙◌}
use Rattle.rl_record.proofs.Records.BytesLemmas.{entries-length, entry_at}
use Rattle.rl_record.specs.SavedRecord.{saved_entries}
use Rattle.rl_record.proofs.changeset.saved.entries_len.Goals as goal

pub loop-change-preserved : goal.loop-change-preserved
loop-change-preserved c =
    let i = c.loop-change.change-index in
    let e = entry_of c.change-item.result in
    let at = entry_at c.args.changes.now i c.change-item.result c.loop-change-test.true c.change-item.is in
    entries-length (map entry_of c.args.changes.now) i e e c.loop-change.len _ c.entry_len.result at.0 at.1 c.loop-change.invariant c.entry_len.ensures c.saturating_add-len.ensures

pub returns : goal.returns
returns c =
    let all = take_all c.loop-change.change-index (map entry_of c.args.changes.now) (omega (arith, c.loop-change-test.false, length-map c.args.changes.now entry_of)) in
    c.loop-change.invariant ∙ ap (λ es. min (length (saved_entries es)) (2 ^ 64 - 1)) all
