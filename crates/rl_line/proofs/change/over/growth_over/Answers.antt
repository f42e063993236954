use Rattle.rl_line.proofs.Common.{ap, arith, drop, entry_to_undo, length, length_back, length_back_over, map, order, refl, ◌+◌, ◌-◌, ◌^◌, ◌∙◌, ◌≡◌, ◌≤◌}
use Rattle.rl_line.proofs.Changes.ChangeLemmas.{length-order}
use Rattle.rl_line.proofs.Changes.RoomLemmas.{past_a_usize}
use Rattle.rl_line.proofs.change.over.growth_over.Goals as goal

pub returns-in-None-clause-err : goal.returns-in-None-clause-err
returns-in-None-clause-err c =
    let xs = order c.args.way c.args.changes.now in
    let left = c.loop-left.left in
    let more : left ≡ (left - 1) + 1 = omega (arith, c.loop-left-test.true) in
    let so_far : c.loop-left.long ≡ length_back_over (map (entry_to_undo c.args.way) (drop ((left - 1) + 1) xs)) c.args.len =
    c.loop-left.invariant.long ∙ ap (λ m. length_back_over (map (entry_to_undo c.args.way) (drop m xs)) c.args.len) more in
    let past : 2 ^ 64 ≤ length_back (entry_to_undo c.args.way c.nth_on.result.now) c.loop-left.long =
    omega (arith, c.in-None.ensures, c.saturating_sub.ensures, ap length c.texts.ensures.going, ap length c.texts.ensures.coming) in (
      refl,
      past_a_usize c.args.way xs (left - 1) c.args.len c.loop-left.long _ (omega (arith, c.loop-left.invariant.within, c.loop-left-test.true, length-order c.args.way c.args.changes.now))
          c.nth_on.ensures so_far (omega (arith, c.ranges.len.fits)) past,
    )
