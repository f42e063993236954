use Rattle.rl_record.proofs.Common.{AtLevel, [], ap, ap₂, entry_of, entry_to_undo, err_from_is_err_and, false, greatest_back_over, has_change, leb, length, moved, refl, subst, sym, unit_of, ◌||◌, ◌∙◌, ◌∷◌, ◌≡◌}
use Rattle.rl_line.specs.Change.{longest_over}
use Rattle.rl_record.proofs.Records.LevelLemmas.{AtLevel-one}
use Rattle.rl_record.proofs.Records.MoveLemmas.{GoesAs-one, GoesOver-of, changes-over, changes-reach, moved-at}
use Rattle.rl_record.proofs.Records.PointLemmas.{one-change}
use Rattle.rl_record.proofs.changeset.Changeset.go_within_any.Given.{Over}
use Rattle.rl_record.proofs.changeset.Changeset.go_within_any.Goals.{After-cut, After-keeps_to}
use Rattle.rl_record.proofs.changeset.Changeset.go_within_any.Goals as goal

now : (g : Over) (c : After-cut g) → c.cut.new.self ≡ moved c.args.way c.args.n c.args.self.now
now g c =
    moved-at c.args.way c.args.n c.len-len.result 1 c.count_over-recorded.result c.self.inside.entries c.args.self.now c.cut.new.self c.self.view_is c.self.invariant.matched c.len-len.ensures.len
    (sym (ap length c.in-Some.ensures.1)) c.count_over-recorded.ensures c.cut.ensures

asked : (g : Over) (c : After-keeps_to g) → c.keeps_to.result ≡ leb (longest_over c.args.way (unit_of c.args.way c.args.n c.args.self.now) (length c.args.line.now.text)) c.args.line.now.limit
asked g c =
    let back = entry_to_undo c.args.way c.in-Some.change.now ∷ [] in
    c.keeps_to.ensures
    ∙ ap₂ (λ n limit. leb (greatest_back_over back n) limit) c.len.ensures.len c.limit.ensures.limit
    ∙ ap (λ n. leb n c.args.line.now.limit) ((GoesAs-one c.args.way c.in-Some.change.now _ c.in-Some.ensures.1).longest _)

pub invariant_of-self : goal.invariant_of-self
invariant_of-self g c =
    subst (AtLevel c.self.inside.level) (sym (now g (goal.at.invariant_of-self g c).After-cut))
    (AtLevel-one c.args.way c.args.n c.self.inside.level c.args.self.now _ c.in-Some.ensures.0 c.in-Some.ensures.1 (subst (AtLevel c.self.inside.level) c.self.view_is c.self.invariant))

pub returns-then-not-keeps_to-clause-done : goal.returns-then-not-keeps_to-clause-done
returns-then-not-keeps_to-clause-done g c = (sym (asked g (goal.at.returns-then-not-keeps_to-clause-done g c).After-keeps_to) ∙ c.if-not-keeps_to.true, refl, refl)

pub returns-in_err-go_over_one-clause-keeps : goal.returns-in_err-go_over_one-clause-keeps
returns-in_err-go_over_one-clause-keeps g c =
    let p = err_from_is_err_and c.from_residual.result c.from_residual.ensures.1 in
    rw p.1 (sym (asked g (goal.at.returns-in_err-go_over_one-clause-keeps g c).After-keeps_to) ∙ c.if-not-keeps_to.false)

pub returns-in-Some-clause-done : goal.returns-in-Some-clause-done
returns-in-Some-clause-done g c =
    let d = goal.at.returns-in-Some-clause-done g c in (
      sym (asked g d.After-keeps_to) ∙ c.if-not-keeps_to.false,
      GoesOver-of c.args.way c.args.n c.args.self.now _ c.args.line.now _ _
          (sym ((GoesAs-one c.args.way c.in-Some.change.now _ c.in-Some.ensures.1).line c.args.line.now) ∙ c.in_ok-go_over_one.ensures.ok) (now g d.After-cut)
          (sym (ap has_change c.in-Some.ensures.1 ∙ ap (λ b. b || false) c.in-Some.ensures.0)),
    )

pub count_over-changes-requires : goal.count_over-changes-requires
count_over-changes-requires g c =
    changes-reach c.args.way c.args.n _ 1 c.self.inside.entries c.args.self.now c.self.view_is c.self.invariant.matched c.len-len.ensures.small c.changes.ensures
    (one-change (entry_of c.in-Some.change.now) _ c.in-Some.ensures.0 c.in-Some.ensures.1)

pub cut-requires-clause-counted : goal.cut-requires-clause-counted
cut-requires-clause-counted g c =
    changes-over c.args.way c.args.n c.len-len.result 1 c.count_over-recorded.result _ 1 _ c.self.inside.entries c.args.self.now c.self.view_is c.self.invariant.matched c.len-len.ensures.len
    (sym (ap length c.in-Some.ensures.1)) c.count_over-recorded.ensures c.changes.ensures (one-change (entry_of c.in-Some.change.now) _ c.in-Some.ensures.0 c.in-Some.ensures.1) c.count_over-changes.ensures
