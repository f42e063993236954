use Rattle.rl_line.proofs.Common.{Line, ap, arith, err_from_is_err_and, length, length-between, lines, ◌∙◌}
use Rattle.rl_base.proofs.Texts.LineLemmas.{count_of_lines, lies}
use Rattle.rl_line.proofs.Plans.IndentLemmas.{Halted-no_memory}
use Rattle.rl_line.proofs.line_buffer.indents.shift_lines.Goals as goal

pub returns-in_err-room : goal.returns-in_err-room
returns-in_err-room g c =
    let p = err_from_is_err_and c.from_residual.result c.from_residual.ensures.1 in
    let all = lines c.args.line.now.line.text in
    let e = c.in_err-room.ensures.err in
    let some = length-between all c.args.lines.start c.args.lines.end (omega (arith, c.requires.within, count_of_lines c.args.line.now.line.text)) in
    rw (p.1, p.2) (Halted-no_memory _ _ c.args.dedent c.args.amount _ _ c.args.line.now.line _ _ _ e.1 (omega (arith, some, c.requires.some)) e.0 c.in_err-room.ensures.line)

pub shift_lines-shifted-requires-clause-place : goal.shift_lines-shifted-requires-clause-place
shift_lines-shifted-requires-clause-place g c =
    let text = c.args.line.now.line.text in
    let h = lies text c.args.lines.start (omega (arith, c.requires.within, c.requires.some, count_of_lines text)) in
    let same = c.open-gapped.ensures.line ∙ c.in_ok-room.ensures.line in
    omega (arith, c.requires.start, h.len, h.within, ap (λ (l : Line). length l.text) same)
