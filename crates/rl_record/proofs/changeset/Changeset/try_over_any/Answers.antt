use Rattle.rl_record.proofs.Common.{Any, AtLevel, NeedsRoom, ap, entry_of, err_from_is_err_and, false, has_change, inr, length, moved, refl, subst, sym, ◌||◌, ◌∙◌, ◌≡◌}
use Rattle.rl_record.proofs.Records.LevelLemmas.{AtLevel-one}
use Rattle.rl_record.proofs.Records.MoveLemmas.{GoesAs-one, GoesOver-of, changes-over, changes-reach, moved-at}
use Rattle.rl_record.proofs.Records.PointLemmas.{one-change}
use Rattle.rl_record.proofs.changeset.Changeset.try_over_any.Goals.{After-cut}
use Rattle.rl_record.proofs.changeset.Changeset.try_over_any.Goals as goal

now : (c : After-cut) → c.cut.new.self ≡ moved c.args.way c.args.n c.args.self.now
now c =
    moved-at c.args.way c.args.n c.len-len.result 1 c.count_over-recorded.result c.self.inside.entries c.args.self.now c.cut.new.self c.self.view_is c.self.invariant.matched c.len-len.ensures.len
    (sym (ap length c.in-Some.ensures.1)) c.count_over-recorded.ensures c.cut.ensures

pub invariant_of-self : goal.invariant_of-self
invariant_of-self c =
    subst (AtLevel c.self.inside.level) (sym (now (goal.at.invariant_of-self c).After-cut))
    (AtLevel-one c.args.way c.args.n c.self.inside.level c.args.self.now _ c.in-Some.ensures.0 c.in-Some.ensures.1 (subst (AtLevel c.self.inside.level) c.self.view_is c.self.invariant))

pub returns-in-Some-clause-tried : goal.returns-in-Some-clause-tried
returns-in-Some-clause-tried c =
    GoesOver-of c.args.way c.args.n c.args.self.now _ c.args.line.now _ _
    (sym ((GoesAs-one c.args.way c.in-Some.change.now _ c.in-Some.ensures.1).line c.args.line.now) ∙ c.in_ok-fits.ensures.ok (c.if-not-fits.false)) (now (goal.at.returns-in-Some-clause-tried c).After-cut)
    (sym (ap has_change c.in-Some.ensures.1 ∙ ap (λ b. b || false) c.in-Some.ensures.0))

pub returns-then-not-fits-clause-tried : goal.returns-then-not-fits-clause-tried
returns-then-not-fits-clause-tried c =
    let no = c.in_ok-fits.ensures.no c.if-not-fits.true in
    (sym ((GoesAs-one c.args.way c.in-Some.change.now _ c.in-Some.ensures.1).line c.args.line.now) ∙ no.0, refl, no.1)

pub returns-in_err-fits-clause-err : goal.returns-in_err-fits-clause-err
returns-in_err-fits-clause-err c =
    let p = err_from_is_err_and c.from_residual.result c.from_residual.ensures.1 in
    let e = c.in_err-fits.ensures.err in
    let text = c.args.line.now.text in
    rw (p.1, p.2) (e.0, refl, e.1, inr (subst (Any (NeedsRoom text)) ((GoesAs-one c.args.way c.in-Some.change.now _ c.in-Some.ensures.1).texts text) e.2))

pub count_over-changes-requires : goal.count_over-changes-requires
count_over-changes-requires c =
    changes-reach c.args.way c.args.n _ 1 c.self.inside.entries c.args.self.now c.self.view_is c.self.invariant.matched c.len-len.ensures.small c.changes.ensures
    (one-change (entry_of c.in-Some.change.now) _ c.in-Some.ensures.0 c.in-Some.ensures.1)

pub cut-requires-clause-counted : goal.cut-requires-clause-counted
cut-requires-clause-counted c =
    changes-over c.args.way c.args.n c.len-len.result 1 c.count_over-recorded.result _ 1 _ c.self.inside.entries c.args.self.now c.self.view_is c.self.invariant.matched c.len-len.ensures.len
    (sym (ap length c.in-Some.ensures.1)) c.count_over-recorded.ensures c.changes.ensures (one-change (entry_of c.in-Some.change.now) _ c.in-Some.ensures.0 c.in-Some.ensures.1) c.count_over-changes.ensures
