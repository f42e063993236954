use Rattle.rl_record.proofs.Common.{ap, entry_of, map, refl, take_rest, ◌∙◌}
use Rattle.rl_record.proofs.Records.MoveLemmas.{last-part}
use Rattle.rl_record.proofs.units.last_units.Goals as goal

pub overflow_sub-result : goal.overflow_sub-result
overflow_sub-result c = (last-part c.args.n c.last_len-len.result _ c.args.entries.now c.last_len-len.ensures refl).0

pub returns : goal.returns
returns c = ap (map entry_of) (take_rest c.args.entries.now _) ∙ (last-part c.args.n c.last_len-len.result _ c.args.entries.now c.last_len-len.ensures refl).1
