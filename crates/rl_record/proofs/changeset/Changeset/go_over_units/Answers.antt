use Rattle.rl_record.proofs.Common.{Any, AtLevel, IsSome, NeedsRoom, ap, change_count, count_over, entries_to_undo, entry_of, err_from_is_err_and, length, length-map, level, listener_after, moved, refl, subst, sym, unit_of, ◌∙◌, ◌≡◌}
use Rattle.rl_record.proofs.Records.LevelLemmas.{AtLevel-moved}
use Rattle.rl_record.proofs.Records.MoveLemmas.{GoesAs, GoesAs-all, GoesOver-of, changes-over, changes-reach, marks-over, moved-at}
use Rattle.rl_record.proofs.Records.PointLemmas.{counted-change}
use Rattle.rl_record.proofs.changeset.Changeset.go_over_units.Given.{Over}
use Rattle.rl_record.proofs.changeset.Changeset.go_over_units.Goals.{After-cut, After-len, After-level_and_changes-opened, After-unit-unit}
use Rattle.rl_record.proofs.changeset.Changeset.go_over_units.Goals as goal

part : (g : Over) (c : After-unit-unit g) → GoesAs c.args.way (entries_to_undo c.args.way c.unit-unit.result.now) (unit_of c.args.way c.args.n c.args.self.now)
part g c = GoesAs-all c.args.way c.unit-unit.result.now _ c.unit-unit.ensures.entries

counted : (g : Over) (c : After-unit-unit g) → length c.unit-unit.result.now ≡ length (unit_of c.args.way c.args.n c.args.self.now)
counted g c = sym (length-map c.unit-unit.result.now entry_of) ∙ ap length c.unit-unit.ensures.entries

stood : (g : Over) (c : After-len g) → AtLevel c.self.inside.level c.args.self.now
stood g c = subst (AtLevel c.self.inside.level) c.self.view_is c.self.invariant

pub go_over_all-requires-clause-follows : goal.go_over_all-requires-clause-follows
go_over_all-requires-clause-follows g c = subst IsSome (sym ((part g (goal.at.go_over_all-requires-clause-follows g c).After-unit-unit).line c.args.line.now)) c.requires.follows

pub returns-in_err-go_over_all-clause-err : goal.returns-in_err-go_over_all-clause-err
returns-in_err-go_over_all-clause-err g c =
    let p = err_from_is_err_and c.from_residual.result c.from_residual.ensures.1 in
    let e = c.in_err-go_over_all.ensures.err in
    let text = c.args.line.now.text in
    rw (p.1, p.2) (e.0, refl, e.1, subst (Any (NeedsRoom text)) ((part g (goal.at.returns-in_err-go_over_all-clause-err g c).After-unit-unit).texts text) e.2)

opened : (g : Over) (c : After-level_and_changes-opened g) → c.level_and_changes-opened.result.0 ≡ level (unit_of c.args.way c.args.n c.args.self.now)
opened g c = c.level_and_changes-opened.ensures.level ∙ ap level c.unit-unit.ensures.entries

changes : (g : Over) (c : After-level_and_changes-opened g) → c.level_and_changes-opened.result.1 ≡ change_count (unit_of c.args.way c.args.n c.args.self.now)
changes g c = c.level_and_changes-opened.ensures.changes ∙ ap change_count c.unit-unit.ensures.entries

pub count_over-changes-requires : goal.count_over-changes-requires
count_over-changes-requires g c =
    changes-reach c.args.way c.args.n _ _ c.self.inside.entries c.args.self.now c.self.view_is c.self.invariant.matched c.len.ensures.small c.changes.ensures
    (changes g (goal.at.count_over-changes-requires g c).After-level_and_changes-opened)

pub cut-requires-clause-counted : goal.cut-requires-clause-counted
cut-requires-clause-counted g c =
    let d = goal.at.cut-requires-clause-counted g c in
    changes-over c.args.way c.args.n c.len.result _ c.count_over-recorded.result _ _ _ c.self.inside.entries c.args.self.now c.self.view_is c.self.invariant.matched c.len.ensures.len
    (counted g d.After-unit-unit) c.count_over-recorded.ensures c.changes.ensures (changes g d.After-level_and_changes-opened) c.count_over-changes.ensures

now : (g : Over) (c : After-cut g) → c.cut.new.self ≡ moved c.args.way c.args.n c.args.self.now
now g c =
    moved-at c.args.way c.args.n c.len.result _ c.count_over-recorded.result c.self.inside.entries c.args.self.now c.cut.new.self c.self.view_is c.self.invariant.matched c.len.ensures.len
    (counted g (goal.at.After-cut g c).After-unit-unit) c.count_over-recorded.ensures c.cut.ensures

pub invariant_of-self : goal.invariant_of-self
invariant_of-self g c =
    let d = goal.at.invariant_of-self g c in
    rw c.count_over-self-inside.ensures (subst (AtLevel (count_over c.args.way c.self.inside.level c.level_and_changes-opened.result.0)) (sym (now g d.After-cut))
    (AtLevel-moved c.args.way c.args.n c.self.inside.level c.level_and_changes-opened.result.0 c.args.self.now (opened g d.After-level_and_changes-opened) (stood g d.After-len)))

pub returns-clause-done : goal.returns-clause-done
returns-clause-done g c =
    let d = goal.at.returns-clause-done g c in
    GoesOver-of c.args.way c.args.n c.args.self.now _ c.args.line.now _ _ (sym ((part g d.After-unit-unit).line c.args.line.now) ∙ c.in_ok-go_over_all.ensures.ok) (now g d.After-cut)
    (counted-change (unit_of c.args.way c.args.n c.args.self.now) _ (changes g d.After-level_and_changes-opened))

pub returns-clause-unmoved : goal.returns-clause-unmoved
returns-clause-unmoved g c = λ none.
    let es = unit_of c.args.way c.args.n c.args.self.now in
    marks-over c.args.way es c.args.line.now c.go_over_all.new.line (sym (counted-change (unit_of c.args.way c.args.n c.args.self.now) _ (changes g (goal.at.returns-clause-unmoved g c).After-level_and_changes-opened)) ∙ none)
    (sym ((part g (goal.at.returns-clause-unmoved g c).After-unit-unit).line c.args.line.now) ∙ c.in_ok-go_over_all.ensures.ok)

pub returns-clause-told : goal.returns-clause-told
returns-clause-told g c =
    c.in_ok-go_over_all.ensures.told
    ∙ ap (λ ss. listener_after g.L.DeleteListener.step c.args.line.now.cursor ss c.args.listener.now) ((part g (goal.at.returns-clause-told g c).After-unit-unit).steps c.args.line.now.cursor)
