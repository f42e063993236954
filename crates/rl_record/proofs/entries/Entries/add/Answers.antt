use Rattle.rl_record.proofs.Common.{StandsAt, [], ap, arith, cut_at, entry_of, kept_point, map, refl, subst, sym, ◌++◌, ◌+◌, ◌∙◌, ◌∷◌}
use Rattle.rl_record.proofs.Records.JoinLemmas.{added-entry, added-last}
use Rattle.rl_record.proofs.Records.PointLemmas.{stands-added, stands-few}
use Rattle.rl_record.proofs.entries.Entries.add.Goals as goal

pub overflow_add-self-then-self-len : goal.overflow_add-self-then-self-len
overflow_add-self-then-self-len c = omega (arith, stands-few _ _ _ _ _ c.self.invariant.1, c.self.invariant.0, c.self.inside.list.small, c.self.inside.list.ok)

pub overflow_add-self-3 : goal.overflow_add-self-3
overflow_add-self-3 c = omega (arith, stands-few _ _ _ _ _ c.self.invariant.1, c.self.invariant.0, c.self.inside.list.small, c.self.inside.list.ok)

pub invariant_of-self : goal.invariant_of-self
invariant_of-self c =
    let s = subst (StandsAt c.self.inside.changes) c.self.view_is c.self.invariant.1 in
    let e = added-entry c.self.inside.list.items _ c.self.inside.recorded _ c.args.entry c.self.inside.fresh c.self.inside.saved c.args.fresh c.args.self.now c.self.invariant.0 c.self.view_is
    ((c.in-Ok.ensures).items ∙ ap (λ xs. xs ++ c.args.entry ∷ []) c.truncate.ensures.items) refl in (
      e.0,
      subst (StandsAt (c.self.inside.changes + 1)) (sym (ap (λ point. cut_at (c.self.inside.recorded + 1) (map entry_of c.push.new.self.items) c.args.fresh point) (c.kept_point-self-inside.ensures ∙ ap (λ n. kept_point n c.self.inside.saved) s.counted) ∙ e.1))
          (stands-added c.self.inside.changes (entry_of c.args.entry) c.args.fresh c.args.self.now c.requires s),
    )

pub returns-then-self-len-clause-done : goal.returns-then-self-len-clause-done
returns-then-self-len-clause-done c =
    let s = subst (StandsAt c.self.inside.changes) c.self.view_is c.self.invariant.1 in
    ap (λ point. cut_at (c.self.inside.recorded + 1) (map entry_of c.push.new.self.items) c.args.fresh point) (c.kept_point-self-inside.ensures ∙ ap (λ n. kept_point n c.self.inside.saved) s.counted)
    ∙ (added-entry c.self.inside.list.items _ c.self.inside.recorded _ c.args.entry c.self.inside.fresh c.self.inside.saved c.args.fresh c.args.self.now c.self.invariant.0 c.self.view_is
    ((c.in-Ok.ensures).items ∙ ap (λ xs. xs ++ c.args.entry ∷ []) c.truncate.ensures.items) refl).1

pub returns-clause-done : goal.returns-clause-done
returns-clause-done c =
    added-last c.self.inside.list.items _ c.self.inside.recorded _ c.self.inside.changes c.args.entry c.self.inside.fresh c.self.inside.saved c.args.fresh c.args.self.now
    c.self.invariant.0 (omega (arith, c.if-self-len.false, c.len.ensures, c.self.inside.list.ok.0)) c.self.view_is (subst (StandsAt c.self.inside.changes) c.self.view_is c.self.invariant.1) c.in_ok-push.ensures.items refl
