use Rattle.rl_line.proofs.Common.{lines, nat_lt, slice_range, start_of_line, true, ◌≡◌}
use Rattle.rl_line.proofs.Plans.IndentLemmas.{blanks_of}
use Rattle.rl_line.specs.Indents.{indent_changes}
use Rattle.rl_line.proofs.line_buffer.LineBuffer.has_blanks.Given as goal

-- the lines so far have no blanks that would go
abbrev pub invariant-loop-k : goal.invariant-loop-k
invariant-loop-k l =
    record {
      start : l.start ≡ start_of_line l.self.text l.k;
      changes : indent_changes l.self l.mvt l.amount true ≡ nat_lt 0 (blanks_of l.amount (slice_range (lines l.self.text) l.k l.k-end));
    }
