use Rattle.rl_line.proofs.Common.{length, start_of_line, ◌*◌, ◌+◌, ◌-◌, ◌≡◌, ◌≤◌}
use Rattle.rl_line.proofs.Plans.IndentLemmas.{LinesDone}
use Rattle.rl_line.specs.Indents.{shift_lines_plan, spaces_each}
use Rattle.rl_line.proofs.gapped.Gapped.shift_lines.Given as goal

abbrev pub invariant-loop-k : goal.invariant-loop-k
invariant-loop-k g l =
    let old = l.fn.self.roomy.line in
    let now = l.self.roomy in
    record {
      done : LinesDone g.L.DeleteListener.step l.dedent l.amount (shift_lines_plan old l.fn.lines l.dedent l.amount) old now.line l.fn.listener l.listener l.k l.fn.lines.end;
      start : l.at ≡ start_of_line now.line.text l.k;
      gap : l.self.gap ≤ l.at;
      room : length now.line.text + spaces_each l.dedent l.amount * (l.fn.lines.end - l.k) ≤ now.bytes;
    }
