use Rattle.rl_line.proofs.Common.{IsTable, List, after_newlines, ap₂, arith, count_by, drop, is_newline, slice_range, subst, take, vec_len, ℕ, ◌++◌, ◌+◌, ◌-◌, ◌∙◌, ◌≡◌, ◌≤◌}
use Rattle.rl_line.proofs.Lines.LineStartLemmas.{IsTable-replaced, length-table, newlines-front, newlines-take}
use Rattle.rl_line.proofs.line_starts.exchange_starts.Goals.{After-line_number}
use Rattle.rl_line.proofs.line_starts.exchange_starts.Goals as goal

-- the starts that go with the range
gone : (c : After-line_number) → c.line_number.result ≡ c.line_number-first.result + count_by is_newline (slice_range c.args.text.now c.args.from c.args.to)
gone c = omega (arith, c.line_number-first.ensures, c.line_number.ensures, newlines-front c.args.text.now c.args.from c.args.to c.requires.order)

within : (c : After-line_number) → c.line_number.result ≤ vec_len c.args.starts.now.places
within c = omega (arith, c.line_number.ensures, newlines-take c.args.text.now c.args.to, length-table _ _ c.args.text.now c.requires.table, c.args.starts.now.places.ok.0)

pub overflow_sub-gone : goal.overflow_sub-gone
overflow_sub-gone c = omega (arith, gone (goal.at.overflow_sub-gone c).After-line_number)

pub put_starts-requires-clause-within : goal.put_starts-requires-clause-within
put_starts-requires-clause-within c =
    let d = (goal.at.put_starts-requires-clause-within c).After-line_number in
    omega (arith, gone d, within d, c.move_border.ensures.border, c.move_border.ensures.count)

pub returns-clause-table : goal.returns-clause-table
returns-clause-table c = λ yes.
    let d = (goal.at.returns-clause-table c).After-line_number in
    let text = c.args.text.now in
    let part = c.args.part.now in
    let first = c.line_number-first.result in
    let places = c.move_border.new.self.places.items in
    let cut = c.line_number.result - first in
    let same : (bytes : List ℕ) → bytes ≡ part → (border : ℕ) → border ≡ first → take border places ++ (after_newlines (c.args.from + 1) bytes ++ drop (border + cut) places) ≡ take first places ++ (after_newlines (c.args.from + 1) part ++ drop (first + cut) places) =
    λ bytes e border f. ap₂ (λ b n. take n places ++ (after_newlines (c.args.from + 1) b ++ drop (n + cut) places)) e f in
    let is = c.put_starts.ensures.places yes ∙ same _ c.as_bytes.ensures.value _ c.move_border.ensures.border in
    let border = c.put_starts.ensures.border yes ∙ ap₂ (λ n k. n + k) c.move_border.ensures.border c.requires.come in
    let table = subst (λ n. IsTable places n text) c.move_border.ensures.border c.move_border.ensures.table in
    let made = IsTable-replaced places text part c.args.from c.args.to first cut table c.requires.order c.requires.end c.line_number-first.ensures (omega (arith, gone d)) in
    rw (is, border) made
