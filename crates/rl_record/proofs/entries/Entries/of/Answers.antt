use Rattle.rl_record.proofs.Common.{ap, arith, change_count, entry_of, is_at, map, sym, take, take-map, ◌∙◌}
use Rattle.rl_record.proofs.Records.PointLemmas.{stands-of}
use Rattle.rl_record.proofs.entries.Entries.of.Goals as goal

pub returns-then-not-is_apart-clause-none : goal.returns-then-not-is_apart-clause-none
returns-then-not-is_apart-clause-none c = λ _ _ h.
    c.is_apart.ensures.joins c.if-not-is_apart.true (λ at. h.1 (ap (λ n. is_at n c.args.saved) (sym (c.count_changes-changes.ensures.count ∙ ap (λ xs. change_count (map entry_of (take c.args.recorded xs))) c.deref-2.ensures.value ∙ ap change_count (sym (take-map entry_of c.args.recorded c.args.list.items)))) ∙ at))

pub invariant_of-result : goal.invariant_of-result
invariant_of-result c = (
  omega (arith, c.if-recorded-len.false, c.len.ensures, c.args.list.ok.0),
  stands-of c.args.recorded c.count_changes-changes.result (map entry_of c.args.list.items) c.args.fresh c.args.saved (c.count_changes-changes.ensures.count ∙ ap (λ xs. change_count (map entry_of (take c.args.recorded xs))) c.deref-2.ensures.value ∙ ap change_count (sym (take-map entry_of c.args.recorded c.args.list.items)))
      (omega (arith, c.unwrap_or.ensures, c.count_changes.ensures.count, ap (λ xs. change_count (map entry_of xs)) c.deref.ensures.value, c.if-unwrap_or-count_changes.false)) (c.is_apart.ensures.apart c.if-not-is_apart.false),
)
