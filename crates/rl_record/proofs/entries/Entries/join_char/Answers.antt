use Rattle.rl_record.proofs.Common.{InsertChar, TakesIn, ap, arith, cut_at, entry_of, err_from_is_err_and, is_change, map, set, subst, sym, ◌-◌, ◌∙◌}
use Rattle.rl_record.proofs.Records.JoinLemmas.{joins, joins-none, joins-not, joins-nothing, stays-err, step-InsertChar}
use Rattle.rl_record.proofs.Records.PointLemmas.{apart-settled, joined-kind, loose, stands-put}
use Rattle.rl_record.proofs.entries.Entries.join_char.Goals as goal

pub returns-then-self-eq0-clause-ok : goal.returns-then-self-eq0-clause-ok
returns-then-self-eq0-clause-ok c =
    joins-nothing (InsertChar c.args.idx c.args.c) c.args.self.now _ c.self.inside.recorded c.self.inside.fresh c.self.inside.saved
    (step-InsertChar c.args.self.now c.args.idx c.args.c) c.self.view_is c.if-self-eq0.true

pub returns-then-is_parted-clause-ok : goal.returns-then-is_parted-clause-ok
returns-then-is_parted-clause-ok c =
    joins-none (InsertChar c.args.idx c.args.c) c.args.self.now _ c.self.inside.recorded c.self.inside.fresh c.self.inside.saved
    (step-InsertChar c.args.self.now c.args.idx c.args.c) c.self.view_is (sym c.is_parted.ensures ∙ c.if-is_parted.true)

pub returns-in_err-fresh-clause-err : goal.returns-in_err-fresh-clause-err
returns-in_err-fresh-clause-err c =
    let p = err_from_is_err_and c.from_residual.result c.from_residual.ensures.1 in
    let e = c.in_err-fresh.ensures.err in
    rw (p.1, p.2) (e.0, stays-err c.self.inside.list.items c.self.inside.recorded c.self.inside.fresh c.self.inside.saved c.args.self.now c.index_mut.result.now c.join_char.new.change c.self.view_is c.index_mut.ensures.value e.1)

pub returns-in_default-clause-ok : goal.returns-in_default-clause-ok
returns-in_default-clause-ok c =
    joins-not (InsertChar c.args.idx c.args.c) c.args.self.now c.self.inside.list.items c.self.inside.recorded c.self.inside.fresh c.self.inside.saved c.index_mut.result.now c.join_char.new.change
    (step-InsertChar c.args.self.now c.args.idx c.args.c) c.self.invariant.0 c.self.view_is (sym c.is_parted.ensures ∙ c.if-is_parted.false) (omega (arith, c.if-self-eq0.false)) c.index_mut.ensures.value
    (subst (TakesIn (InsertChar c.args.idx c.args.c) (entry_of c.index_mut.result.now) (entry_of c.join_char.new.change)) c.in_default.is c.in_ok-fresh.ensures.ok)

pub returns-clause-ok : goal.returns-clause-ok
returns-clause-ok c =
    c.settle.ensures
    ∙ joins (InsertChar c.args.idx c.args.c) c.args.self.now c.self.inside.list.items c.self.inside.recorded c.self.inside.fresh c.self.inside.saved c.in-Some.fresh c.index_mut.result.now c.join_char.new.change
    (step-InsertChar c.args.self.now c.args.idx c.args.c) c.self.invariant.0 c.self.view_is (sym c.is_parted.ensures ∙ c.if-is_parted.false) (omega (arith, c.if-self-eq0.false)) c.index_mut.ensures.value
    (subst (TakesIn (InsertChar c.args.idx c.args.c) (entry_of c.index_mut.result.now) (entry_of c.join_char.new.change)) c.in-Some.is c.in_ok-fresh.ensures.ok)

pub invariant_of-self : goal.invariant_of-self
invariant_of-self c = stands-put c.self.inside.changes c.self.inside.recorded c.self.inside.list.items c.self.inside.fresh c.self.inside.fresh c.self.inside.saved c.index_mut.result.now c.join_char.new.change c.self.invariant.0
    (omega (arith, c.if-self-eq0.false)) c.index_mut.ensures.value (sym (ap is_change c.in_err-fresh.ensures.err.1)) (λ p. p) c.self.invariant.1

pub invariant_of-self-in_default : goal.invariant_of-self-in_default
invariant_of-self-in_default c = stands-put c.self.inside.changes c.self.inside.recorded c.self.inside.list.items c.self.inside.fresh c.self.inside.fresh c.self.inside.saved c.index_mut.result.now c.join_char.new.change c.self.invariant.0
    (omega (arith, c.if-self-eq0.false)) c.index_mut.ensures.value (sym (ap is_change (subst (TakesIn (InsertChar c.args.idx c.args.c) (entry_of c.index_mut.result.now) (entry_of c.join_char.new.change)) c.in_default.is c.in_ok-fresh.ensures.ok).1)) (λ p. p) c.self.invariant.1

pub invariant_of-self-2 : goal.invariant_of-self-2
invariant_of-self-2 c = stands-put c.self.inside.changes c.self.inside.recorded c.self.inside.list.items c.self.inside.fresh c.self.inside.fresh c.self.inside.saved c.index_mut.result.now c.join_char.new.change c.self.invariant.0
    (omega (arith, c.if-self-eq0.false)) c.index_mut.ensures.value (joined-kind (InsertChar c.args.idx c.args.c) _ _ (subst (TakesIn (InsertChar c.args.idx c.args.c) (entry_of c.index_mut.result.now) (entry_of c.join_char.new.change)) c.in-Some.is c.in_ok-fresh.ensures.ok).0) (λ p. p) c.self.invariant.1

pub settle-requires : goal.settle-requires
settle-requires c =
    let s = stands-put c.self.inside.changes c.self.inside.recorded c.self.inside.list.items c.self.inside.fresh c.self.inside.fresh c.self.inside.saved c.index_mut.result.now c.join_char.new.change c.self.invariant.0
    (omega (arith, c.if-self-eq0.false)) c.index_mut.ensures.value (joined-kind (InsertChar c.args.idx c.args.c) _ _ (subst (TakesIn (InsertChar c.args.idx c.args.c) (entry_of c.index_mut.result.now) (entry_of c.join_char.new.change)) c.in-Some.is c.in_ok-fresh.ensures.ok).0) (λ p. p) c.self.invariant.1 in
    apart-settled (cut_at c.self.inside.recorded (map entry_of (set c.self.inside.list.items (c.self.inside.recorded - 1) c.join_char.new.change)) c.self.inside.fresh c.self.inside.saved) c.in-Some.fresh s.1.apart
    (loose c.self.inside.fresh c.in-Some.fresh (sym c.is_parted.ensures ∙ c.if-is_parted.false))
