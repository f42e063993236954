use Rattle.rl_record.proofs.Common.{ap, ap₂, entries_to_undo, greatest_back_over, leb, ◌∙◌}
use Rattle.rl_record.proofs.Records.MoveLemmas.{GoesAs-all}
use Rattle.rl_record.proofs.changeset.Changeset.units_fit.Goals as goal

pub returns : goal.returns
returns c =
    let back = entries_to_undo c.args.way c.unit.result.now in
    c.keeps_to.ensures
    ∙ ap₂ (λ n limit. leb (greatest_back_over back n) limit) c.len.ensures.len c.limit.ensures.limit
    ∙ ap (λ n. leb n c.args.line.now.limit) ((GoesAs-all c.args.way c.unit.result.now _ c.unit.ensures.entries).longest _)
