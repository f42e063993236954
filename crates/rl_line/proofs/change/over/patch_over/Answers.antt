use Rattle.rl_line.proofs.Common.{arith, bytes_back, entry_to_undo, length, map, old_text, order, subst, suc, sym, zero, ℕ, ◌+◌, ◌-◌, ◌<◌, ◌∙◌, ◌≡◌}
use Rattle.rl_line.proofs.Changes.ChangeLemmas.{GoesOver, GoesOver-next, longer-by}
use Rattle.rl_line.proofs.Changes.RoomLemmas.{bytes_back-one}
use Rattle.rl_line.proofs.change.over.patch_over.Goals.{After-patch}
use Rattle.rl_line.proofs.change.over.patch_over.Goals as goal

inside : (c : After-patch) → c.loop-left.left - 1 < length (order c.args.way c.args.changes.now)
inside c = omega (arith, c.loop-left.invariant.rest.within, c.loop-left-test.true)

over : (c : After-patch) → GoesOver c.args.asks c.args.way (order c.args.way c.args.changes.now) ((c.loop-left.left - 1) + 1) c.args.text.now c.loop-left.now
over c =
    let more : c.loop-left.left ≡ (c.loop-left.left - 1) + 1 = omega (arith, c.loop-left-test.true) in
    subst (λ k. GoesOver c.args.asks c.args.way (order c.args.way c.args.changes.now) k c.args.text.now c.loop-left.now) more c.loop-left.invariant.rest

either : (m n k : ℕ) → (0 < m → 0 < k) → (0 < n → 0 < k) → 0 < m + n → 0 < k
either zero n k f g h = g (omega (arith, h))
either (suc m) n k f g h = f (omega arith)

-- where there is a text, or one comes, there was a text at first, or one came
some : (c : After-patch) → 0 < length c.loop-left.now + length (old_text (entry_to_undo c.args.way c.nth_on-change.result.now))
    → 0 < length c.args.text.now + bytes_back (map (entry_to_undo c.args.way) (order c.args.way c.args.changes.now))
some c =
    let x = c.nth_on-change.result.now in
    let comes : 0 < length (old_text (entry_to_undo c.args.way x)) → 0 < length c.args.text.now + bytes_back (map (entry_to_undo c.args.way) (order c.args.way c.args.changes.now)) =
    λ h. omega (arith, bytes_back-one c.args.way (order c.args.way c.args.changes.now) (c.loop-left.left - 1) x (inside c) c.nth_on-change.ensures h) in
    either _ _ _ c.loop-left.invariant.some comes

pub loop-left-preserved : goal.loop-left-preserved
loop-left-preserved c =
    let d = (goal.at.loop-left-preserved c).After-patch in
    let e = entry_to_undo c.args.way c.nth_on-change.result.now in
    let made = c.in_ok-patch.ensures.done c.if-not-branch.false in
    let longer = longer-by e c.loop-left.now c.patch.new.text made in
    record {
      rest = GoesOver-next c.args.asks c.args.way (order c.args.way c.args.changes.now) (c.loop-left.left - 1) c.nth_on-change.result.now c.args.text.now c.loop-left.now _ (inside d) c.nth_on-change.ensures (over d)
          made (sym c.stands.ensures ∙ c.if-not-stands.false);
      some = λ h. some d (omega (arith, h, longer));
    }
