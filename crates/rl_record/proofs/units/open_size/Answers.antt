use Rattle.rl_record.proofs.Common.{arith, rules}
use Rattle.rl_record.proofs.units.open_size.Goals as goal

pub returns : goal.returns
returns c =
    let same = c.open_size_to.ensures.same in
    let few = c.open_size_to.ensures.few in
    search (rules, arith, same, few)
