use Rattle.rl_line.proofs.Common.{arith, sym, ◌∙◌}
use Rattle.rl_base.proofs.Texts.TextLemmas.{StandsAt, stands_at-means}
use Rattle.rl_line.proofs.patched.leads_by.Goals.{In-Some}
use Rattle.rl_line.proofs.patched.leads_by.Goals as goal

stands : (c : In-Some) → StandsAt c.args.text.now c.args.at c.args.going.now
stands c = stands_at-means _ _ _ (sym c.stands_at.ensures ∙ c.if-not-stands_at.false)

pub overflow_add-at : goal.overflow_add-at
overflow_add-at c = omega (arith, (stands (goal.at.overflow_add-at c).In-Some).end.0)

pub is_boundary_with-requires : goal.is_boundary_with-requires
is_boundary_with-requires c = let d = stands (goal.at.is_boundary_with-requires c).In-Some in (omega arith, d.start, d.end)
