use Rattle.rl_line.proofs.Common.{IsUtf8, Line, [], ap, arith, drop, drop-map, entry_to_undo, inverse, length, length_back, length_back_over, listener_after, map, order, steps_ahead, steps_back, subst, sym, ◌+◌, ◌-◌, ◌<◌, ◌∙◌, ◌∷◌, ◌≡◌}
use Rattle.rl_line.proofs.Changes.BackLemmas.{IsBack, IsBack-next, entries_from, length_back_over-within, line_back-unwind}
use Rattle.rl_line.proofs.Changes.ChangeLemmas.{length-order}
use Rattle.rl_line.proofs.Changes.GoingLemmas.{back-one_more}
use Rattle.rl_line.proofs.Changes.RoomLemmas.{length_back_over-is}
use Rattle.rl_line.proofs.going.go_over_each.Given.{Over}
use Rattle.rl_line.proofs.going.go_over_each.Goals.{After-nth_on-change}
use Rattle.rl_line.proofs.going.go_over_each.Goals as goal

-- the line as it stands when a change is taken back
abbrev now : (g : Over) → After-nth_on-change g → Line
now g c = g.T.Steppable.line c.loop-left.line

one_more : (g : Over) (c : After-nth_on-change g) → c.loop-left.left ≡ (c.loop-left.left - 1) + 1
one_more g c = omega arith

back : (g : Over) (c : After-nth_on-change g) → IsBack c.args.way (order c.args.way c.args.changes.now) ((c.loop-left.left - 1) + 1) (g.T.Steppable.line c.args.line.now) (now g c)
back g c = subst (λ k. IsBack c.args.way (order c.args.way c.args.changes.now) k (g.T.Steppable.line c.args.line.now) (now g c)) (one_more g c) c.loop-left.invariant.back

inside : (g : Over) (c : After-nth_on-change g) → c.loop-left.left - 1 < length (order c.args.way c.args.changes.now)
inside g c = omega (arith, length-order c.args.way c.args.changes.now)

utf8 : (g : Over) (c : After-nth_on-change g) → IsUtf8 (g.T.Steppable.line c.args.line.now).text
utf8 g c = c.cursor-start.ensures.utf8

-- there is room for the text that comes, whose length is one on the way
pub go_over-requires-clause-room : goal.go_over-requires-clause-room
go_over-requires-clause-room g c =
    let d = (goal.at.go_over-requires-clause-room g c).After-nth_on-change in
    let m = c.loop-left.left - 1 in
    let xs = order c.args.way c.args.changes.now in
    let n = length (g.T.Steppable.line c.args.line.now).text in
    let e = entry_to_undo c.args.way c.nth_on-change.result.now in
    let es = map (entry_to_undo c.args.way) (drop (m + 1) xs) in
    let was : length (now g d).text ≡ length_back_over es n =
    length_back_over-is es (g.T.Steppable.line c.args.line.now).text (now g d).text (utf8 g d) (line_back-unwind es (g.T.Steppable.line c.args.line.now) (now g d) (back g d).so_far) in
    let same : length_back_over (drop m (map (entry_to_undo c.args.way) xs)) n ≡ length_back e (length (now g d).text) =
    ap (λ es. length_back_over es n) (drop-map (entry_to_undo c.args.way) m xs ∙ entries_from c.args.way xs m c.nth_on-change.result.now (inside g d) c.nth_on-change.ensures) ∙ ap (length_back e) (sym was) in
    omega (arith, length_back_over-within m (map (entry_to_undo c.args.way) xs) n, same, c.loop-left.invariant.room)

pub loop-left-preserved : goal.loop-left-preserved
loop-left-preserved g c =
    let d = (goal.at.loop-left-preserved g c).After-nth_on-change in
    let taken = c.go_over.ensures in
    let step = g.L.DeleteListener.step in
    let xs = order c.args.way c.args.changes.now in
    let x = c.nth_on-change.result.now in
    let m = c.loop-left.left - 1 in
    let start = (g.T.Steppable.line c.args.line.now) in
    let es = map (entry_to_undo c.args.way) (drop (m + 1) xs) in
    let heard : c.loop-left.listener ≡ listener_after step start.cursor (steps_back start.cursor es) c.args.listener.now =
    c.loop-left.invariant.heard ∙ ap (λ k. listener_after step start.cursor (steps_back start.cursor (map (entry_to_undo c.args.way) (drop k xs))) c.args.listener.now) (one_more g d) in
    record {
      back = IsBack-next c.args.way xs m x start (now g d) _ (inside g d) c.nth_on-change.ensures (back g d) taken.line;
      room = omega (arith, c.loop-left.invariant.room, taken.bytes);
      within = omega arith;
      heard = (rw c.cursor-before.ensures.place at c.tell_over.ensures) ∙ ap (listener_after step (now g d).cursor (steps_ahead (now g d).cursor (inverse (entry_to_undo c.args.way x) ∷ []))) heard
          ∙ sym (back-one_more step (entry_to_undo c.args.way x) es start (now g d) c.args.listener.now (back g d).so_far)
          ∙ ap (λ ds. listener_after step start.cursor (steps_back start.cursor ds) c.args.listener.now) (sym (entries_from c.args.way xs m x (inside g d) c.nth_on-change.ensures));
    }
