use Rattle.rl_record.proofs.Common.{Begin, [], ap, ap₂, arith, drop_all, entry_of, err_from_is_err_and, get_or, length, map, map-append, sym, take_all, ◌++◌, ◌<◌, ◌∙◌, ◌∷◌}
use Rattle.rl_base.proofs.Texts.SavingLemmas.{next-first, read-more}
use Rattle.rl_record.specs.SavedRecord.{IsSavedEntry, saved_entries, saved_entry}
use Rattle.std.proofs.lemmas.List.{take_more}
use Rattle.std.proofs.lemmas.List.Elements.{All-push}
use Rattle.rl_record.proofs.changeset.saved.load_entries.Goals as goal

pub returns-in_err-load_entry-clause-err : goal.returns-in_err-load_entry-clause-err
unfolding saved_entries
returns-in_err-load_entry-clause-err c =
    let p = err_from_is_err_and c.from_residual.result c.from_residual.ensures.1 in
    rw (p.1, p.2) (λ es rest len all is.
    let at : c.loop-i.i < length es = omega (arith, c.loop-i-test.true, len) in
    c.in_err-load_entry.ensures.err (get_or es c.loop-i.i Begin) _ (all c.loop-i.i Begin at) ((c.loop-i.invariant.read es rest len all is).1 ∙ next-first saved_entry es rest c.loop-i.i Begin at))

pub loop-i-preserved : goal.loop-i-preserved
unfolding saved_entries
loop-i-preserved c =
    let so_far = map entry_of c.loop-i.made.items in
    let e = entry_of c.in_ok-load_entry.field-0 in
    let more = ap (map entry_of) c.in_ok-push.ensures.items ∙ map-append entry_of c.loop-i.made.items (c.in_ok-load_entry.field-0 ∷ []) in
    let one = c.in_ok-load_entry.ensures in
    record {
      read = λ es rest len all is.
          let at : c.loop-i.i < length es = omega (arith, c.loop-i-test.true, len) in
          let before = c.loop-i.invariant.read es rest len all is in
          let next = one.ok (get_or es c.loop-i.i Begin) _ (all c.loop-i.i Begin at) (before.1 ∙ next-first saved_entry es rest c.loop-i.i Begin at) in
          (more ∙ ap₂ (λ ds d. ds ++ d ∷ []) before.0 next.0 ∙ sym (take_more es c.loop-i.i Begin at), next.1);
      again = rw more (read-more saved_entry c.args.bytes.now c.loop-i.bytes c.load_entry.new.bytes so_far e c.loop-i.invariant.again one.read.0);
      saved = rw more (All-push IsSavedEntry so_far e c.loop-i.invariant.saved one.read.1);
    }

pub returns-clause-ok : goal.returns-clause-ok
unfolding saved_entries
returns-clause-ok c es rest len all is =
    let all_read = c.loop-i.invariant.read es rest len all is in
    (all_read.0 ∙ take_all c.loop-i.i es (omega (arith, c.loop-i-test.false, len)), all_read.1 ∙ ap (λ ds. saved_entries ds ++ rest) (drop_all c.loop-i.i es (omega (arith, c.loop-i-test.false, len))))
