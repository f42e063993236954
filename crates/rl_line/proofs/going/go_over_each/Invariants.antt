use Rattle.rl_line.proofs.Common.{drop, entry_to_undo, greatest_back_over, length, listener_after, map, order, steps_back, ◌≡◌, ◌≤◌}
use Rattle.rl_line.proofs.Changes.BackLemmas.{IsBack}
use Rattle.rl_line.proofs.going.go_over_each.Given as goal

abbrev pub invariant-loop-left : goal.invariant-loop-left
invariant-loop-left g l =
    let start = g.T.Steppable.line l.fn.line in
    record {
      back : IsBack l.way (order l.way l.changes) l.left start (g.T.Steppable.line l.line);
      room : greatest_back_over (map (entry_to_undo l.way) (order l.way l.changes)) (length start.text) ≤ g.T.Steppable.bytes l.line;
      within : l.left ≤ length l.changes;
      heard : l.listener ≡ listener_after g.L.DeleteListener.step start.cursor (steps_back start.cursor (map (entry_to_undo l.way) (drop l.left (order l.way l.changes)))) l.fn.listener;
    }

abbrev pub decreases-loop-left : goal.decreases-loop-left
decreases-loop-left g l = l.left
