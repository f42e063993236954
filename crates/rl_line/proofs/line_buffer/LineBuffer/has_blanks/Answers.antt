use Rattle.rl_line.proofs.Common.{IsCharBoundary, IsUtf8, List, ap, arith, drop, length, lines, lt-ltb, nat_lt, slice_range, subst, sym, text_of_line, ℕ, ◌+◌, ◌<◌, ◌∙◌, ◌≡◌}
use Rattle.rl_base.proofs.Texts.LineLemmas.{count_of_lines, start-next}
use Rattle.rl_line.proofs.Lines.FirstLineLemmas.{IsCharBoundary-start_of_line, first-of_line}
use Rattle.rl_line.proofs.Plans.IndentLemmas.{blanks_of, blanks_of-next, blanks_of-none, dedents-change}
use Rattle.rl_line.proofs.line_buffer.LineBuffer.has_blanks.Goals.{After-as_str, After-blanks}
use Rattle.rl_line.proofs.line_buffer.LineBuffer.has_blanks.Goals as goal

pub loop-k-init : goal.loop-k-init
loop-k-init c = record {
  start = c.start_of_line-start.ensures.value;
  changes = dedents-change c.args.self.now c.args.mvt.now c.args.amount c.indented_lines-lines.result c.indented_lines-lines.ensures.value;
}

within : (c : After-as_str) → c.loop-k.k < length (lines c.args.self.now.text)
within c = omega (arith, c.loop-k-test.true, c.indented_lines-lines.ensures.within, count_of_lines c.args.self.now.text)

pub range_from-requires : goal.range_from-requires
range_from-requires c =
    let small = within (goal.at.range_from-requires c).After-as_str in
    λ some. subst (λ (t : List ℕ). IsCharBoundary t c.loop-k.start) (sym c.as_str.ensures)
    (IsCharBoundary-start_of_line c.args.self.now.text c.loop-k.k c.loop-k.start small c.loop-k.invariant.start (subst IsUtf8 c.as_str.ensures c.as_str.utf8))

-- the line's text
part : (c : After-blanks) → c.first_line-line.result.now ≡ text_of_line c.args.self.now.text c.loop-k.k
part c =
    let text = c.args.self.now.text in
    c.first_line-line.ensures.text ∙ ap (λ (t : List ℕ). text_of_line t 0) (c.range_from.ensures.value ∙ ap (drop c.loop-k.start) c.as_str.ensures)
    ∙ first-of_line text c.loop-k.k c.loop-k.start (omega (arith, c.loop-k-test.true, c.indented_lines-lines.ensures.within, count_of_lines text)) c.loop-k.invariant.start

-- what it adds
next : (c : After-blanks) → blanks_of c.args.amount (slice_range (lines c.args.self.now.text) c.loop-k.k c.indented_lines-lines.result.end)
    ≡ c.blanks.result + blanks_of c.args.amount (slice_range (lines c.args.self.now.text) (c.loop-k.k + 1) c.indented_lines-lines.result.end)
next c =
    let text = c.args.self.now.text in
    let end = c.indented_lines-lines.result.end in
    let small : c.loop-k.k < length (lines text) = omega (arith, c.loop-k-test.true, c.indented_lines-lines.ensures.within, count_of_lines text) in
    blanks_of-next text c.args.amount c.loop-k.k end c.first_line-line.result.now c.loop-k-test.true small (part c)
    ∙ ap (λ n. n + blanks_of c.args.amount (slice_range (lines text) (c.loop-k.k + 1) end)) (sym c.blanks.ensures.len)

pub loop-k-preserved : goal.loop-k-preserved
loop-k-preserved c =
    let d = (goal.at.loop-k-preserved c).After-blanks in
    let text = c.args.self.now.text in
    record {
      start = omega (arith, c.loop-k.invariant.start, ap length (part d), start-next text c.loop-k.k (omega (arith, c.loop-k-test.true, c.indented_lines-lines.ensures.within, count_of_lines text)));
      changes = c.loop-k.invariant.changes ∙ ap (nat_lt 0) (omega (arith, next d));
    }

pub returns-then-blanks-gt0 : goal.returns-then-blanks-gt0
returns-then-blanks-gt0 c =
    let more = next (goal.at.returns-then-blanks-gt0 c).After-blanks in
    sym (c.loop-k.invariant.changes ∙ lt-ltb 0 _ (omega (arith, more)))

pub returns : goal.returns
returns c =
    sym (c.loop-k.invariant.changes ∙ ap (nat_lt 0) (blanks_of-none c.args.self.now.text c.args.amount c.loop-k.k c.indented_lines-lines.result.end (omega arith)))
