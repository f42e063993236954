use Rattle.rl_line.proofs.Common.{ap, count_by, is_newline, sym, ◌∙◌}
use Rattle.rl_line.proofs.Lines.LineStartLemmas.{IsTable-stays}
use Rattle.rl_line.proofs.line_starts.swap_starts.Goals as goal

-- the table is that of the new text too, where the function returns at once
pub returns-then-stays : goal.returns-then-stays
returns-then-stays c =
    λ yes. IsTable-stays _ c.args.text.now c.args.part.now c.args.from c.args.to _ _ c.requires.table c.requires.range.0 c.requires.range.2.0 (c.newlines-come.ensures ∙ ap (count_by is_newline) c.as_bytes.ensures.value) (sym c.stays.ensures ∙ c.if-stays.true)
