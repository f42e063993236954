use Rattle.std.proofs.Common.{◌≡◌, ◌-◌, ◌≤◌, ◌++◌, ℕ, List, length, replicate}
use Rattle.rl_base.specs.Screen.{filled_after}
use Rattle.rl_base.proofs.screen.begin_rows.Given as goal

-- beginning the rows that are left leads where beginning all does
abbrev pub invariant-loop-begun : goal.invariant-loop-begun
invariant-loop-begun l =
    record {
      starts : (rest : List ℕ) → filled_after l.begun (replicate (l.end - l.begun) l.place ++ rest) l.starts
          ≡ filled_after l.fn.begun (replicate l.fn.more l.place ++ rest) l.fn.starts;
      begun : l.begun ≤ l.end;
      length : length l.starts ≡ length l.fn.starts;
    }

abbrev pub decreases-loop-begun : goal.decreases-loop-begun
decreases-loop-begun l = l.end - l.begun
