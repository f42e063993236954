use Rattle.rl_line.proofs.Common.{IsTable, arith, length, remove_range, subst, sym, ◌-◌, ◌∙◌}
use Rattle.rl_line.proofs.Lines.GapLemmas.{around-number, around-whole, length-gapped}
use Rattle.rl_line.proofs.gapped.whole_table.Goals as goal

pub fill_starts-requires-clause-within : goal.fill_starts-requires-clause-within
fill_starts-requires-clause-within c =
    let h = c.requires c.if-not-had.false in
    omega (arith, h.table.within, c.args.starts.now.places.ok.0)

pub returns : goal.returns
returns c = λ yes.
    let text = c.args.text.now in
    let front = c.args.front in
    let h = c.requires c.if-not-had.false in
    let end = length text - c.args.back in
    let size = length-gapped text front end (omega (arith, h.order)) (omega arith) in
    let made = c.fill_starts.ensures yes (remove_range text front end) h.table (omega (arith, h.order, size)) (h.seam ∙ sym (around-number text front end (omega (arith, h.order)))) in
    subst (IsTable _ _) (around-whole text front end (omega (arith, h.order)) (omega arith)) made
