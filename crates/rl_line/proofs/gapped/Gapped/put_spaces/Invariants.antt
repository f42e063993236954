use Rattle.rl_line.proofs.Common.{IsCharBoundary, List, Step, Taken, length, parts, pushed, put_spaces, ◌++◌, ◌+◌, ◌≡◌, ◌≤◌}
use Rattle.rl_line.proofs.gapped.Gapped.put_spaces.Given as goal

-- the steps so far with those that are left are the whole plan's
abbrev pub invariant-loop-left : goal.invariant-loop-left
invariant-loop-left g l =
    let i = l.fn.at in
    let old = l.fn.self.roomy.line in
    let now = l.self.roomy.line in
    record {
      done : List Step;
      taken : Taken g.L.DeleteListener.step done old now l.fn.listener l.listener;
      steps : put_spaces (parts l.fn.amount) i old.cursor ≡ done ++ put_spaces (parts l.left) i now.cursor;
      cursor : pushed i l.left now.cursor ≡ pushed i l.fn.amount old.cursor;
      start : IsCharBoundary now.text i;
      within : l.left ≤ l.fn.amount;
      len : length now.text + l.left ≡ length old.text + l.fn.amount;
      gap : l.self.gap ≤ i + l.fn.amount;
      bytes : l.self.roomy.bytes ≡ l.fn.self.roomy.bytes;
    }

abbrev pub decreases-loop-left : goal.decreases-loop-left
decreases-loop-left g l = l.left
