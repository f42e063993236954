use Rattle.rl_record.proofs.Common.{length-take-le, sym}
use Rattle.rl_record.proofs.Records.MoveLemmas.{next-part}
use Rattle.rl_record.proofs.units.next_unit.Goals as goal

pub slice_bounds-result-end : goal.slice_bounds-result-end
slice_bounds-result-end c = sym (length-take-le c.next_len-len.result c.args.entries.now (next-part c.next_len-len.result c.args.entries.now c.requires c.next_len-len.ensures).0)

pub returns : goal.returns
returns c = (next-part c.next_len-len.result c.args.entries.now c.requires c.next_len-len.ensures).1
