use Rattle.rl_record.proofs.Common.{Record, StandsAt, ap, arith, change_count, drop, end_times, entry_of, flipped, inverse, length-map, map, reverse, subst, sym, ◌*◌, ◌++◌, ◌+◌, ◌∙◌}
use Rattle.rl_record.proofs.Records.KeepLemmas.{few-open, kept-view, stands-kept}
use Rattle.rl_record.proofs.Records.PointLemmas.{stands-sum}
use Rattle.rl_record.proofs.entries.Entries.keep_undone.Goals as goal

pub overflow_add-groups : goal.overflow_add-groups
overflow_add-groups c =
    let few = few-open c.args.groups c.self.inside.recorded c.self.inside.list.items c.args.self.now.pending (ap (λ (r : Record). r.pending) c.self.view_is) c.requires.matched c.requires.level in
    omega (arith, few, c.len.ensures, c.in_ok-back.back.small, c.in_ok-back.back.ok, c.self.inside.list.small, c.self.inside.list.ok)

pub returns-clause-done : goal.returns-clause-done
returns-clause-done c =
    let n = c.args.groups in
    kept-view n c.self.inside.recorded c.len-self-inside.result (map entry_of c.self.inside.list.items) _ (map entry_of c.in_ok-back.back.items) _ c.self.inside.saved _ c.self.view_is
    c.requires.matched c.requires.level
    (c.in_ok-back.ensures.ok ∙ ap (λ es. map inverse (end_times n es)) c.pending.ensures)
    (c.push_turned.ensures.items ∙ ap (λ es. es ++ map flipped (reverse (map entry_of c.in_ok-back.back.items))) (c.close_groups.ensures.entries ∙ ap (λ xs. end_times n (map entry_of xs)) c.in_ok-reserve.ensures.items))
    (omega (arith, c.len-self-inside.ensures, c.push_turned.new.entries.ok.0, length-map c.push_turned.new.entries.items entry_of))

pub overflow_add-self : goal.overflow_add-self
overflow_add-self c =
    let few = stands-sum c.self.inside.changes c.self.inside.recorded (map entry_of c.self.inside.list.items) c.self.inside.fresh c.self.inside.saved c.args.self.now c.self.view_is
    (subst (StandsAt c.self.inside.changes) c.self.view_is c.self.invariant.1) in
    omega (arith, few, c.count_changes.ensures.count, ap change_count c.pending-2.ensures, length-map c.self.inside.list.items entry_of, c.self.inside.list.small, c.self.inside.list.ok.0)

pub invariant_of-self-3 : goal.invariant_of-self-3
invariant_of-self-3 c =
    let n = c.args.groups in
    let s = subst (StandsAt c.self.inside.changes) c.self.view_is c.self.invariant.1 in (
      omega (arith, c.len-self-inside.ensures, c.push_turned.new.entries.ok.0),
      subst (StandsAt (c.self.inside.changes + 2 * c.count_changes.result))
          (sym (kept-view n c.self.inside.recorded c.len-self-inside.result (map entry_of c.self.inside.list.items) _ (map entry_of c.in_ok-back.back.items) _ c.self.inside.saved _ c.self.view_is
          c.requires.matched c.requires.level (c.in_ok-back.ensures.ok ∙ ap (λ es. map inverse (end_times n es)) c.pending.ensures)
          (c.push_turned.ensures.items ∙ ap (λ es. es ++ map flipped (reverse (map entry_of c.in_ok-back.back.items))) (c.close_groups.ensures.entries ∙ ap (λ xs. end_times n (map entry_of xs)) c.in_ok-reserve.ensures.items))
          (omega (arith, c.len-self-inside.ensures, c.push_turned.new.entries.ok.0, length-map c.push_turned.new.entries.items entry_of))))
          (stands-kept c.self.inside.changes c.count_changes.result c.args.self.now (c.count_changes.ensures.count ∙ ap change_count c.pending-2.ensures ∙ ap (λ xs. change_count (drop c.self.inside.recorded (map entry_of xs))) c.in_ok-reserve.ensures.items
          ∙ ap (λ (q : Record). change_count q.pending) c.self.view_is) s),
    )
