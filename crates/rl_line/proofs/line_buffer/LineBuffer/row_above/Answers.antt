use Rattle.rl_base.specs.Lines.{line_number}
use Rattle.rl_line.proofs.Lines.RowLemmas.{above-own, comes-above, goes-above, own-cell, stops-above}
use Rattle.rl_line.specs.Rows.{cell_after, near_above, place_in_row}
use Rattle.std.proofs.Common.{None, Some, ap, arith, rules, unwrap_or, ℕ, ◌+◌, ◌-◌, ◌∙◌, ◌≡◌}
use Rattle.rl_line.proofs.line_buffer.LineBuffer.row_above.Goals as goal

pub loop-row-init : goal.loop-row-init
loop-row-init c =
    let screen = c.args.screen.now in
    let text = c.args.self.now.text in
    let pos = c.args.self.now.cursor in
    let k = line_number text pos in
    let from = near_above screen text c.args.from c.args.n pos in
    let begins : c.near_above-start.result.0 ≡ from =
    c.near_above-start.ensures.value ∙ ap (λ n. near_above screen text c.args.from n pos) c.from-left.ensures in
    let at = own-cell screen text c.line_number-k.result k c.near_above-start.result.0 from pos c.near_above-start.result.1 c.near_above-start.ensures.cell
    c.line_number-k.ensures.value begins in
    record {
      line = search rules;
      start = search rules;
      boundary = search rules;
      comes = λ to h. above-own screen text c.line_number-k.result k c.near_above-start.result.0 from c.near_above-start.result.1.0
          (cell_after screen text k from pos).0 c.from-left.result c.args.n to c.line_number-k.ensures.value begins
          (ap (λ (cell : ℕ × ℕ). cell.0) at) c.from-left.ensures h;
    }

pub returns-then-k-eq0 : goal.returns-then-k-eq0
returns-then-k-eq0 c =
    let l = c.loop-row in
    l.invariant.comes None (stops-above c.args.screen.now c.args.self.now.text l.k l.start l.row l.left c.if-k-eq0.true c.loop-row-test.true)

pub loop-row-preserved : goal.loop-row-preserved
loop-row-preserved c =
    let l = c.loop-row in
    let left = l.left - (l.row + 1) in
    record {
      line = search (rules, arith);
      start = search (rules, arith);
      boundary = search rules;
      comes = λ to h. l.invariant.comes to (goes-above c.args.screen.now c.args.self.now.text l.k (l.k - 1) l.start l.row l.left left c.start_of_line-start.result
          c.saturating_sub-row.result to (omega (arith, c.if-k-eq0.false)) (omega (arith, c.loop-row-test.true)) c.start_of_line-start.ensures.value
          (c.saturating_sub-row.ensures ∙ ap (λ n. n - 1) c.height.ensures) h);
    }

pub returns : goal.returns
returns c =
    let l = c.loop-row in
    let screen = c.args.screen.now in
    let text = c.args.self.now.text in
    let pos = c.args.self.now.cursor in
    let k = line_number text pos in
    let from = near_above screen text c.args.from c.args.n pos in
    let begins : c.near_above-start.result.0 ≡ from =
    c.near_above-start.ensures.value ∙ ap (λ n. near_above screen text c.args.from n pos) c.from-left.ensures in
    let at = own-cell screen text c.line_number-k.result k c.near_above-start.result.0 from pos c.near_above-start.result.1 c.near_above-start.ensures.cell
    c.line_number-k.ensures.value begins in
    let column : c.unwrap_or-column.result ≡ unwrap_or c.args.column (cell_after screen text k from pos).1 =
    c.unwrap_or-column.ensures ∙ ap (λ (cell : ℕ × ℕ). unwrap_or c.args.column cell.1) at in (
      (l.k, (l.start, l.row - l.left)),
      l.invariant.comes (Some (l.k, (l.start, l.row - l.left))) (comes-above screen text l.k l.start l.row l.left c.loop-row-test.false),
      ap (λ place. (place, c.unwrap_or-column.result)) c.place_in_row.ensures
          ∙ ap (λ column. (place_in_row screen text l.k l.start (l.row - l.left) column, column)) column,
    )
