use Rattle.rl_record.proofs.Common.{End, Record, StandsAt, [], ap, arith, change_count, drop, entry_of, get_or, map, point_past, subst, sym, take, ◌+◌, ◌-◌, ◌∙◌, ◌∷◌}
use Rattle.rl_record.proofs.Records.PointLemmas.{count-blank, one-part, stands-blanked}
use Rattle.rl_record.proofs.Records.TallyLemmas.{blank-view}
use Rattle.std.proofs.lemmas.List.{length-set}
use Rattle.rl_line.specs.declared.change.Change.TheVariants as made
use Rattle.rl_record.proofs.entries.Entries.blank.Goals as goal

pub overflow_sub-self : goal.overflow_sub-self
overflow_sub-self c =
    let s = subst (StandsAt c.self.inside.changes) c.self.view_is c.self.invariant.1 in
    omega (arith, s.counted, (c.count_changes-gone.ensures.count ∙ ap (λ xs. change_count (map entry_of (take ((c.args.at + 1) - c.args.at) (drop c.args.at xs)))) c.deref.ensures.value ∙ ap change_count (one-part c.self.inside.list.items c.self.inside.recorded c.args.at c.self.inside.fresh c.self.inside.saved c.args.self.now c.self.view_is c.requires c.self.invariant.0)), count-blank c.args.self.now.recorded c.args.at c.requires)

pub invariant_of-self : goal.invariant_of-self
invariant_of-self c = (
  omega (arith, c.self.invariant.0, length-set c.self.inside.list.items c.args.at made.End),
  subst (StandsAt (c.self.inside.changes - c.count_changes-gone.result))
      (sym (blank-view c.self.inside.list.items c.self.inside.recorded c.args.at c.self.inside.fresh c.self.inside.saved c.point_past-self-inside.result c.args.self.now c.self.view_is c.requires
      (c.point_past-self-inside.ensures ∙ ap (λ k. point_past k c.self.inside.saved) (c.count_changes-gone.ensures.count ∙ ap (λ xs. change_count (map entry_of (take ((c.args.at + 1) - c.args.at) (drop c.args.at xs)))) c.deref.ensures.value ∙ ap change_count (one-part c.self.inside.list.items c.self.inside.recorded c.args.at c.self.inside.fresh c.self.inside.saved c.args.self.now c.self.view_is c.requires c.self.invariant.0)) ∙ ap (λ (q : Record). point_past (change_count (get_or c.args.self.now.recorded c.args.at End ∷ [])) q.saved) c.self.view_is)))
      (stands-blanked c.self.inside.changes c.count_changes-gone.result c.args.at c.args.self.now c.requires (c.count_changes-gone.ensures.count ∙ ap (λ xs. change_count (map entry_of (take ((c.args.at + 1) - c.args.at) (drop c.args.at xs)))) c.deref.ensures.value ∙ ap change_count (one-part c.self.inside.list.items c.self.inside.recorded c.args.at c.self.inside.fresh c.self.inside.saved c.args.self.now c.self.view_is c.requires c.self.invariant.0)) (subst (StandsAt c.self.inside.changes) c.self.view_is c.self.invariant.1)),
)

pub returns : goal.returns
returns c = blank-view c.self.inside.list.items c.self.inside.recorded c.args.at c.self.inside.fresh c.self.inside.saved c.point_past-self-inside.result c.args.self.now c.self.view_is c.requires
    (c.point_past-self-inside.ensures ∙ ap (λ k. point_past k c.self.inside.saved) (c.count_changes-gone.ensures.count ∙ ap (λ xs. change_count (map entry_of (take ((c.args.at + 1) - c.args.at) (drop c.args.at xs)))) c.deref.ensures.value ∙ ap change_count (one-part c.self.inside.list.items c.self.inside.recorded c.args.at c.self.inside.fresh c.self.inside.saved c.args.self.now c.self.view_is c.requires c.self.invariant.0)) ∙ ap (λ (q : Record). point_past (change_count (get_or c.args.self.now.recorded c.args.at End ∷ [])) q.saved) c.self.view_is)
