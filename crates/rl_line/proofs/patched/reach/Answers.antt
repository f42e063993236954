use Rattle.rl_line.proofs.Common.{IsCharBoundary, replace_range, subst, sym}
use Rattle.rl_line.proofs.Changes.ReachLemmas.{stands_when}
use Rattle.rl_line.proofs.patched.reach.Goals as goal

pub widen_down-requires-clause-at : goal.widen_down-requires-clause-at
widen_down-requires-clause-at c =
    stands_when (replace_range c.args.text.now c.args.from.now c.args.to.now c.args.part.now) c.args.at c.is_boundary_in.result c.is_boundary_in.ensures c.if-not-is_boundary_in.false

pub widen_up-requires-clause-end : goal.widen_up-requires-clause-end
widen_up-requires-clause-end c =
    subst (λ t. IsCharBoundary t c.args.end) (sym c.in_ok-widen_down.ensures.same)
    (stands_when (replace_range c.args.text.now c.args.from.now c.args.to.now c.args.part.now) c.args.end c.is_boundary_in-2.result c.is_boundary_in-2.ensures c.if-not-is_boundary_in-2.false)
