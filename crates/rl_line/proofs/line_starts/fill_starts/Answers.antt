use Rattle.rl_line.proofs.Common.{ap, count_by, is_newline, le_refl, rules, slice_range, ◌+◌, ◌∙◌, ◌≡◌}
use Rattle.rl_line.proofs.Lines.LineStartLemmas.{IsTable-replaced}
use Rattle.rl_line.proofs.line_starts.fill_starts.Goals as goal

pub returns : goal.returns
returns c = λ yes text table within here.
    let at = c.args.at in
    let none : 0 ≡ count_by is_newline (slice_range text at at) = search rules in
    let border = c.put_starts.ensures.border yes ∙ ap (λ n. c.args.starts.now.border + n) c.newlines-come.ensures in
    rw (c.put_starts.ensures.places yes, border) (IsTable-replaced _ text c.args.part.now at at _ 0 table (le_refl at) within here none)
