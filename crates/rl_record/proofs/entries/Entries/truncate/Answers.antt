use Rattle.rl_record.proofs.Common.{StandsAt, ap, arith, change_count, drop, entry_of, length, length-map, length-take-le, map, subst, sym, take, ◌-◌, ◌∙◌, ◌≡◌}
use Rattle.rl_record.proofs.Records.KeepLemmas.{truncated-front, truncated-view}
use Rattle.rl_record.proofs.Records.PointLemmas.{left-counted, stands-truncated}
use Rattle.rl_record.proofs.entries.Entries.truncate.Goals as goal

pub overflow_sub-left : goal.overflow_sub-left
overflow_sub-left c =
    omega (
      arith,
      left-counted c.self.inside.recorded c.min-len.result c.self.inside.changes c.count_changes.result c.self.inside.list.items (omega (arith, c.min-len.ensures)) c.self.invariant.1.counted
          (c.count_changes.ensures.count ∙ ap (λ xs. change_count (map entry_of (take (c.self.inside.recorded - c.min-len.result) (drop c.min-len.result xs)))) c.deref.ensures.value),
    )

pub keep-requires-clause-counted : goal.keep-requires-clause-counted
keep-requires-clause-counted c =
    omega (
      arith,
      left-counted c.self.inside.recorded c.min-len.result c.self.inside.changes c.count_changes.result c.self.inside.list.items (omega (arith, c.min-len.ensures)) c.self.invariant.1.counted
          (c.count_changes.ensures.count ∙ ap (λ xs. change_count (map entry_of (take (c.self.inside.recorded - c.min-len.result) (drop c.min-len.result xs)))) c.deref.ensures.value),
    )

pub invariant_of-self : goal.invariant_of-self
invariant_of-self c =
    let left : c.self.inside.changes - c.count_changes.result ≡ change_count (take c.min-len.result (map entry_of c.self.inside.list.items)) = omega (
      arith,
      left-counted c.self.inside.recorded c.min-len.result c.self.inside.changes c.count_changes.result c.self.inside.list.items (omega (arith, c.min-len.ensures)) c.self.invariant.1.counted
          (c.count_changes.ensures.count ∙ ap (λ xs. change_count (map entry_of (take (c.self.inside.recorded - c.min-len.result) (drop c.min-len.result xs)))) c.deref.ensures.value),
    ) in
    let v = truncated-view c.self.inside.recorded c.min-len.result c.args.len (c.self.inside.changes - c.count_changes.result) (map entry_of c.self.inside.list.items) (map entry_of c.keep.new.entries.items) c.self.inside.fresh _
    c.self.inside.saved _ c.args.self.now c.self.view_is (omega (arith, c.self.invariant.0, length-map c.self.inside.list.items entry_of)) c.min-len.ensures c.keep.ensures.items left c.keep.ensures.saved c.freshness_at-self-inside.ensures in
    let few = length-take-le c.min-len.result (map entry_of c.self.inside.list.items) (omega (arith, c.min-len.ensures, c.self.invariant.0, length-map c.self.inside.list.items entry_of)) in (
      omega (arith, few, ap length c.keep.ensures.items, length-map c.keep.new.entries.items entry_of),
      subst (StandsAt (c.self.inside.changes - c.count_changes.result)) (sym v)
          (stands-truncated c.self.inside.changes (c.self.inside.changes - c.count_changes.result) c.args.len c.args.self.now (left ∙ ap change_count (sym c.keep.ensures.items ∙ truncated-front c.self.inside.recorded c.min-len.result c.args.len (map entry_of c.self.inside.list.items) _ c.self.inside.fresh c.self.inside.saved c.args.self.now c.self.view_is (omega (arith, c.self.invariant.0, length-map c.self.inside.list.items entry_of)) c.min-len.ensures c.keep.ensures.items)) (subst (StandsAt c.self.inside.changes) c.self.view_is c.self.invariant.1)),
    )

pub returns : goal.returns
returns c =
    let left : c.self.inside.changes - c.count_changes.result ≡ change_count (take c.min-len.result (map entry_of c.self.inside.list.items)) = omega (
      arith,
      left-counted c.self.inside.recorded c.min-len.result c.self.inside.changes c.count_changes.result c.self.inside.list.items (omega (arith, c.min-len.ensures)) c.self.invariant.1.counted
          (c.count_changes.ensures.count ∙ ap (λ xs. change_count (map entry_of (take (c.self.inside.recorded - c.min-len.result) (drop c.min-len.result xs)))) c.deref.ensures.value),
    ) in
    truncated-view c.self.inside.recorded c.min-len.result c.args.len (c.self.inside.changes - c.count_changes.result) (map entry_of c.self.inside.list.items) (map entry_of c.keep.new.entries.items) c.self.inside.fresh _
    c.self.inside.saved _ c.args.self.now c.self.view_is (omega (arith, c.self.invariant.0, length-map c.self.inside.list.items entry_of)) c.min-len.ensures c.keep.ensures.items left c.keep.ensures.saved c.freshness_at-self-inside.ensures
