use Rattle.rl_base.specs.Lines.{line_number}
use Rattle.rl_line.proofs.Lines.RowLemmas.{below-own, comes-below, goes-below, own-cell, stops-below}
use Rattle.rl_line.specs.Rows.{cell_after, height, near, place_in_row}
use Rattle.std.proofs.Common.{None, Some, ap, arith, rules, unwrap_or, ℕ, ◌+◌, ◌-◌, ◌∙◌, ◌≡◌, ◌≤◌}
use Rattle.rl_line.proofs.line_buffer.LineBuffer.row_below.Goals as goal

pub loop-place-init : goal.loop-place-init
loop-place-init c =
    let screen = c.args.screen.now in
    let text = c.args.self.now.text in
    let k = line_number text c.args.self.now.cursor in
    let from = near text c.args.from c.args.self.now.cursor in
    let at : c.cell_after-row.result ≡ cell_after screen text k from c.args.self.now.cursor =
    own-cell screen text c.line_number-k.result k c.near-start.result from c.args.self.now.cursor c.cell_after-row.result c.cell_after-row.ensures.value
    c.line_number-k.ensures.value c.near-start.ensures.value in
    record {
      line = search rules;
      start = search rules;
      boundary = search rules;
      rows = search (rules, arith);
      comes = λ to h. below-own screen text c.line_number-k.result k c.near-start.result from c.cell_after-row.result.0
          (cell_after screen text k from c.args.self.now.cursor).0 c.from-left.result c.args.n to c.line_number-k.ensures.value c.near-start.ensures.value
          (ap (λ (cell : ℕ × ℕ). cell.0) at) c.from-left.ensures h;
    }

pub returns-in-Ok : goal.returns-in-Ok
returns-in-Ok c =
    let l = c.loop-place in
    let screen = c.args.screen.now in
    let text = c.args.self.now.text in
    let k = line_number text c.args.self.now.cursor in
    let from = near text c.args.from c.args.self.now.cursor in
    let at : c.cell_after-row.result ≡ cell_after screen text k from c.args.self.now.cursor =
    own-cell screen text c.line_number-k.result k c.near-start.result from c.args.self.now.cursor c.cell_after-row.result c.cell_after-row.ensures.value
    c.line_number-k.ensures.value c.near-start.ensures.value in
    let column : c.unwrap_or-column.result ≡ unwrap_or c.args.column (cell_after screen text k from c.args.self.now.cursor).1 =
    c.unwrap_or-column.ensures ∙ ap (λ (cell : ℕ × ℕ). unwrap_or c.args.column cell.1) at in
    let found = c.in-Ok.ensures.ok in (
      (l.k, (l.start, l.row + l.left)),
      l.invariant.comes (Some (l.k, (l.start, l.row + l.left))) (comes-below screen text l.k l.start l.row l.left found.0),
      ap (λ place. (place, c.unwrap_or-column.result)) found.1
          ∙ ap (λ column. (place_in_row screen text l.k l.start (l.row + l.left) column, column)) column,
    )

pub returns-then-k-last : goal.returns-then-k-last
returns-then-k-last c =
    let l = c.loop-place in
    let below : height c.args.screen.now c.args.self.now.text l.k l.start ≤ l.row + l.left = omega (arith, c.in-Err.ensures.err) in
    l.invariant.comes None (stops-below c.args.screen.now c.args.self.now.text l.k l.start l.row l.left (c.if-k-last.true ∙ c.last_line-last.ensures) below)

pub loop-place-preserved : goal.loop-place-preserved
loop-place-preserved c =
    let l = c.loop-place in
    let screen = c.args.screen.now in
    let text = c.args.self.now.text in
    record {
      line = search (rules, arith);
      start = search (rules, arith);
      boundary = search rules;
      rows = search (rules, arith);
      comes = λ to h. l.invariant.comes to (goes-below screen text l.k l.start l.row l.left (l.row + l.left - c.in-Err.height) c.start_of_line-start.result to
          (omega (arith, l.invariant.line, c.if-k-last.false, c.last_line-last.ensures)) (omega (arith, c.in-Err.ensures.err)) c.start_of_line-start.ensures.value h);
    }
