use Rattle.rl_record.proofs.Common.{Tries, ap, err_from_is_err_and, inl, inr, is_some, line_over, refl, subst, sym, unit_of, ◌∙◌, ◌≡◌}
use Rattle.rl_line.proofs.Changes.ChangeLemmas.{none-reached}
use Rattle.rl_record.proofs.changeset.Changeset.try_over_units.Goals.{In_ok-fits}
use Rattle.rl_record.proofs.changeset.Changeset.try_over_units.Goals as goal

asked : (c : In_ok-fits) → is_some (line_over c.args.way (unit_of c.args.way c.args.n c.args.self.now) c.args.line.now) ≡ c.in_ok-fits.fits
asked c = ap (λ es. is_some (line_over c.args.way es c.args.line.now)) (sym c.unit-unit.ensures.entries) ∙ sym c.in_ok-fits.ensures.ok

pub go_over_units-requires-clause-follows : goal.go_over_units-requires-clause-follows
go_over_units-requires-clause-follows c = asked (goal.at.go_over_units-requires-clause-follows c).In_ok-fits ∙ c.if-not-fits.false

pub returns-then-not-fits-clause-tried : goal.returns-then-not-fits-clause-tried
returns-then-not-fits-clause-tried c = (none-reached _ (asked (goal.at.returns-then-not-fits-clause-tried c).In_ok-fits ∙ c.if-not-fits.true), refl, refl)

pub returns-in_err-fits-clause-err : goal.returns-in_err-fits-clause-err
returns-in_err-fits-clause-err c =
    let p = err_from_is_err_and c.from_residual.result c.from_residual.ensures.1 in
    let e = c.in_err-fits.ensures.err in
    rw (p.1, p.2) (e.0, refl, refl, inl (subst (λ es. Tries c.args.way es c.args.line.now.text) c.unit-unit.ensures.entries e.1))

pub returns-in_err-changed-clause-err : goal.returns-in_err-changed-clause-err
returns-in_err-changed-clause-err c =
    let p = err_from_is_err_and c.from_residual-in_err-changed.result c.from_residual-in_err-changed.ensures.1 in
    let e = c.in_err-changed.ensures.err in
    rw (p.1, p.2) (e.0, e.1, e.2, inr e.3)
