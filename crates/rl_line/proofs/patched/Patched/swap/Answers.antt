use Rattle.rl_line.proofs.Common.{IsUtf8, ap, arith, insert_slice, length, replace_range, stands_at, subst, sym, ◌+◌, ◌-◌, ◌∙◌, ◌≡◌, ◌≤◌}
use Rattle.rl_base.proofs.Texts.TextLemmas.{IsUtf8-replaced, stands_at-means}
use Rattle.rl_line.proofs.Changes.ReachLemmas.{put_instead}
use Rattle.rl_line.proofs.Changes.PatchLemmas.{patched-stands, patched-swap}
use Rattle.rl_line.proofs.patched.Patched.swap.Goals.{After-stands_at, In_ok-insert}
use Rattle.rl_line.proofs.patched.Patched.swap.Goals as goal

-- the text is as it was once the part reaches both places
same : (c : After-stands_at) → replace_range c.self.inside.text.now c.reach.new.from c.reach.new.to c.reach.new.part ≡ c.args.self.now
same c = c.in_ok-reach.ensures.same ∙ c.self.view_is

from : (c : After-stands_at) → c.reach.new.from ≤ c.args.at
from c = (c.in_ok-reach.ensures.lies c.if-not-branch.false).0

within : (c : After-stands_at) → (c.args.at - c.reach.new.from) + length c.args.going.now ≤ length c.reach.new.part
within c = omega (arith, c.in-Some.ensures.1, from c, (c.in_ok-reach.ensures.lies c.if-not-branch.false).1)

tested : (c : After-stands_at) → c.stands_at.result ≡ stands_at c.args.self.now c.args.at c.args.going.now
tested c =
    let patch = c.reach.ensures.patch in
    c.stands_at.ensures
    ∙ patched-stands c.self.inside.text.now c.reach.new.from c.reach.new.to c.reach.new.part c.self.invariant.0 c.reach.ensures.utf8 patch.1 patch.2 c.args.at (from c) c.args.going.now (within c)
    ∙ ap (λ t. stands_at t c.args.at c.args.going.now) (same c)

instead : (c : In_ok-insert) → c.insert.new.self ≡ replace_range c.reach.new.part (c.args.at - c.reach.new.from) ((c.args.at - c.reach.new.from) + length c.args.going.now) c.args.coming.now
instead c =
    let start = c.args.at - c.reach.new.from in
    let fits = within (goal.at.returns-clause-done c).After-stands_at in
    c.in_ok-insert.ensures.ok ∙ ap (insert_slice c.remove.new.self start) c.as_bytes.ensures.value
    ∙ ap (λ t. insert_slice t start c.args.coming.now) c.remove.ensures
    ∙ put_instead c.reach.new.part c.args.coming.now start (start + length c.args.going.now) (omega arith)

pub returns-then-not-stands_at-clause-stands : goal.returns-then-not-stands_at-clause-stands
returns-then-not-stands_at-clause-stands c = sym c.if-not-stands_at.true ∙ tested (goal.at.returns-then-not-stands_at-clause-stands c).After-stands_at

pub returns-clause-stands : goal.returns-clause-stands
returns-clause-stands c = sym c.if-not-stands_at.false ∙ tested (goal.at.returns-clause-stands c).After-stands_at

pub returns-clause-done : goal.returns-clause-done
returns-clause-done c = λ yes.
    let patch = c.reach.ensures.patch in
    let d = (goal.at.returns-clause-done c).After-stands_at in
    ap (replace_range c.self.inside.text.now c.reach.new.from c.reach.new.to) (instead c)
    ∙ patched-swap c.self.inside.text.now c.reach.new.from c.reach.new.to c.reach.new.part c.self.invariant.0 c.reach.ensures.utf8 patch.1 patch.2 c.args.at (from d) (length c.args.going.now) c.args.coming.now (within d)
    ∙ ap (λ t. replace_range t c.args.at (c.args.at + length c.args.going.now) c.args.coming.now) (same d)

pub invariant_of-self-2 : goal.invariant_of-self-2
invariant_of-self-2 c =
    let start = c.args.at - c.reach.new.from in
    let d = stands_at-means c.reach.new.part start c.args.going.now (sym c.stands_at.ensures ∙ c.if-not-stands_at.false) in (
      c.self.invariant.0,
      c.reach.ensures.patch,
      subst IsUtf8 (sym (instead (goal.at.invariant_of-self-2 c).In_ok-insert))
          (IsUtf8-replaced c.reach.new.part start (start + length c.args.going.now) c.args.coming.now c.reach.ensures.utf8 c.utf8.coming d.start d.end),
    )
