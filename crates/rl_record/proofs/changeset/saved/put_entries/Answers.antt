use Rattle.rl_record.proofs.Common.{All, ap, arith, entry_of, err_from_is_err_and, length-map, map, subst, sym, take, take_all, ◌++◌, ◌∙◌}
use Rattle.rl_base.proofs.Texts.SavingLemmas.{put-more}
use Rattle.rl_record.proofs.Records.BytesLemmas.{entry_at}
use Rattle.rl_record.specs.SavedRecord.{FitsEntry, IsSavedEntry, saved_entries, saved_entry}
use Rattle.std.proofs.lemmas.List.Elements.{All-more}
use Rattle.rl_record.proofs.changeset.saved.put_entries.Goals as goal

pub returns-in_err-put_entry-clause-err : goal.returns-in_err-put_entry-clause-err
returns-in_err-put_entry-clause-err c =
    let at = entry_at c.args.changes.now c.loop-change.change-index c.change-item.result c.loop-change-test.true c.change-item.is in
    let p = err_from_is_err_and c.from_residual.result c.from_residual.ensures.1 in
    rw (p.1, p.2) (λ long all. c.in_err-put_entry.ensures.err long (subst FitsEntry at.1 (all c.loop-change.change-index (entry_of c.change-item.result) at.0)))

pub loop-change-preserved : goal.loop-change-preserved
unfolding saved_entries
loop-change-preserved c =
    let es = map entry_of c.args.changes.now in
    let i = c.loop-change.change-index in
    let e = entry_of c.change-item.result in
    let at = entry_at c.args.changes.now i c.change-item.result c.loop-change-test.true c.change-item.is in
    record {
      put = c.in_ok-put_entry.ensures.ok ∙ ap (λ bytes. bytes ++ saved_entry e) c.loop-change.invariant.put
          ∙ ap (λ d. (c.args.out.now.items ++ saved_entries (take i es)) ++ saved_entry d) (sym at.1) ∙ put-more saved_entry c.args.out.now.items es i e at.0;
      loads = All-more IsSavedEntry es i e at.0 c.loop-change.invariant.loads (subst IsSavedEntry (sym at.1) c.in_ok-put_entry.ensures.loads);
    }

pub returns-clause-loads : goal.returns-clause-loads
returns-clause-loads c =
    let all = take_all c.loop-change.change-index (map entry_of c.args.changes.now) (omega (arith, c.loop-change-test.false, length-map c.args.changes.now entry_of)) in
    subst (All IsSavedEntry) all c.loop-change.invariant.loads
