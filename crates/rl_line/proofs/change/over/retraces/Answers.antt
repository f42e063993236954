use Rattle.rl_line.proofs.Common.{arith, length, order, subst, sym, ◌+◌, ◌-◌, ◌<◌, ◌∙◌, ◌≡◌}
use Rattle.rl_line.proofs.Changes.WalkLemmas.{WalksOn, WalksOn-all, WalksOn-next, WalksOn-not, WalksOn-start, lone-walks, walks_over}
use Rattle.rl_line.proofs.change.over.retraces.Goals.{After-walks}
use Rattle.rl_line.proofs.change.over.retraces.Goals as goal

inside : (c : After-walks) → c.loop-left.left - 1 < length (order c.args.way c.args.changes.now)
inside c = omega (arith, c.loop-left.invariant.within, c.loop-left-test.true)

on : (c : After-walks) → WalksOn c.args.way (order c.args.way c.args.changes.now) ((c.loop-left.left - 1) + 1) c.args.text.now c.loop-left.now
on c =
    let more : c.loop-left.left ≡ (c.loop-left.left - 1) + 1 = omega (arith, c.loop-left-test.true) in
    subst (λ k. WalksOn c.args.way (order c.args.way c.args.changes.now) k c.args.text.now c.loop-left.now) more c.loop-left.invariant

pub returns-in-Some-clause-ok : goal.returns-in-Some-clause-ok
returns-in-Some-clause-ok c =
    lone-walks c.args.way c.args.changes.now c.in-Some.change.now c.args.text.now _ c.utf8.text c.in-Some.ensures.some c.walks_alone.ensures

pub loop-left-init : goal.loop-left-init
loop-left-init c = subst (WalksOn c.args.way (order c.args.way c.args.changes.now) (length c.args.changes.now) c.args.text.now) (sym c.new-now.ensures) (WalksOn-start c.args.way c.args.changes.now c.args.text.now)

pub loop-left-preserved : goal.loop-left-preserved
loop-left-preserved c =
    let d = (goal.at.loop-left-preserved c).After-walks in
    WalksOn-next c.args.way (order c.args.way c.args.changes.now) (c.loop-left.left - 1) c.nth_on-change.result.now c.args.text.now c.loop-left.now (inside d) c.nth_on-change.ensures (on d)
    _ (c.in_ok-walks.ensures.done c.if-not-branch.false)

pub returns-then-not-branch-clause-ok : goal.returns-then-not-branch-clause-ok
returns-then-not-branch-clause-ok c =
    let d = (goal.at.returns-then-not-branch-clause-ok c).After-walks in
    walks_over c.args.way c.args.changes.now c.args.text.now _ c.utf8.text
    (WalksOn-not c.args.way (order c.args.way c.args.changes.now) (c.loop-left.left - 1) c.nth_on-change.result.now c.args.text.now c.loop-left.now (inside d) c.nth_on-change.ensures (on d)
    (sym c.in_ok-walks.ensures.walks ∙ c.if-not-branch.true))

pub returns-clause-ok : goal.returns-clause-ok
returns-clause-ok c =
    let none : c.loop-left.left ≡ 0 = omega (arith, c.loop-left-test.false) in
    walks_over c.args.way c.args.changes.now c.args.text.now _ c.utf8.text
    (WalksOn-all c.args.way (order c.args.way c.args.changes.now) c.args.text.now c.loop-left.now
    (subst (λ k. WalksOn c.args.way (order c.args.way c.args.changes.now) k c.args.text.now c.loop-left.now) none c.loop-left.invariant))
