use Rattle.rl_base.specs.Lines.{end_of_line, last_line, line_number}
use Rattle.rl_line.specs.Rows.{Below, cell_after, near}
use Rattle.std.proofs.Common.{Option, ℕ, ◌+◌, ◌-◌, ◌<◌, ◌^◌, ◌≤◌}
use Rattle.std.specs.Str.{IsCharBoundary}
use Rattle.rl_line.proofs.line_buffer.LineBuffer.row_below.Given as goal

-- what lies so many rows below the row that was come to lies n rows below the cursor's
abbrev pub invariant-loop-place : goal.invariant-loop-place
invariant-loop-place l =
    let own = line_number l.self.text l.self.cursor in
    let from = near l.self.text l.fn.from l.self.cursor in
    record {
      line : l.k ≤ last_line l.self.text;
      start : l.start ≤ end_of_line l.self.text l.k;
      boundary : IsCharBoundary l.self.text l.start;
      rows : l.row + l.left < 2 ^ 64;
      comes : (to : Option (ℕ × (ℕ × ℕ))) → Below l.screen l.self.text l.k l.start l.row l.left to
          → Below l.screen l.self.text own from (cell_after l.screen l.self.text own from l.self.cursor).0 l.fn.n to;
    }

abbrev pub decreases-loop-place : goal.decreases-loop-place
decreases-loop-place l = last_line l.self.text - l.k
