use Rattle.rl_line.proofs.Common.{ap, arith, drop, entry_to_undo, length, length_back_over, lt-leb, map, order, sym, ◌+◌, ◌-◌, ◌∙◌, ◌≡◌}
use Rattle.rl_line.proofs.Changes.ChangeLemmas.{length-order}
use Rattle.rl_line.proofs.Changes.RoomLemmas.{on_the_way}
use Rattle.rl_line.proofs.change.over.keeps_to.Goals as goal

pub returns-then-coming-limit : goal.returns-then-coming-limit
returns-then-coming-limit c =
    let xs = order c.args.way c.args.changes.now in
    let left = c.loop-left.left in
    let more : left ≡ (left - 1) + 1 = omega (arith, c.loop-left-test.true) in
    let so_far : c.loop-left.long ≡ length_back_over (map (entry_to_undo c.args.way) (drop ((left - 1) + 1) xs)) c.args.len =
    c.loop-left.invariant.long ∙ ap (λ m. length_back_over (map (entry_to_undo c.args.way) (drop m xs)) c.args.len) more in
    let way = on_the_way c.args.way xs (left - 1) c.args.len c.loop-left.long c.nth_on.result.now (omega (arith, c.loop-left.invariant.within, c.loop-left-test.true, length-order c.args.way c.args.changes.now)) c.nth_on.ensures so_far in
    sym (lt-leb _ c.args.limit (omega (arith, way, c.if-coming-limit.true, c.saturating_sub-long.ensures, ap length c.texts.ensures.going, ap length c.texts.ensures.coming)))
