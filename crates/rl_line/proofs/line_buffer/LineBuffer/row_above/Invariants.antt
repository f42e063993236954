use Rattle.rl_base.specs.Lines.{end_of_line, last_line, line_number}
use Rattle.rl_line.specs.Rows.{Above, cell_after, near_above}
use Rattle.std.proofs.Common.{Option, ℕ, ◌≤◌}
use Rattle.std.specs.Str.{IsCharBoundary}
use Rattle.rl_line.proofs.line_buffer.LineBuffer.row_above.Given as goal

-- what lies so many rows above the row that was come to lies n rows above the cursor's
abbrev pub invariant-loop-row : goal.invariant-loop-row
invariant-loop-row l =
    let own = line_number l.self.text l.self.cursor in
    let from = near_above l.screen l.self.text l.fn.from l.fn.n l.self.cursor in
    record {
      line : l.k ≤ last_line l.self.text;
      start : l.start ≤ end_of_line l.self.text l.k;
      boundary : IsCharBoundary l.self.text l.start;
      comes : (to : Option (ℕ × (ℕ × ℕ))) → Above l.screen l.self.text l.k l.start l.row l.left to
          → Above l.screen l.self.text own from (cell_after l.screen l.self.text own from l.self.cursor).0 l.fn.n to;
    }

abbrev pub decreases-loop-row : goal.decreases-loop-row
decreases-loop-row l = l.left
