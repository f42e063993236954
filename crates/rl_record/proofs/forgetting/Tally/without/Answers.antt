use Rattle.rl_record.proofs.Common.{arith, refl}
use Rattle.rl_record.proofs.Records.TallyLemmas.{taken-none, taken-size}
use Rattle.rl_record.proofs.forgetting.Tally.without.Goals as goal

pub returns-then-counted-at-clause-held : goal.returns-then-counted-at-clause-held
returns-then-counted-at-clause-held c = taken-none c.args.at c.args.self c.args.entries.now c.requires.held c.if-counted-at.true

pub overflow_sub-result : goal.overflow_sub-result
overflow_sub-result c =
    let sum = taken-size c.args.self.counted c.args.at c.size.result c.args.self c.args.entries.now c.index-entries-at.result refl c.requires.within c.requires.held (omega (arith, c.if-counted-at.false)) c.index-entries-at.is c.size.ensures in
    omega (arith, sum)

pub returns-clause-held : goal.returns-clause-held
returns-clause-held c =
    let sum = taken-size c.args.self.counted c.args.at c.size.result c.args.self c.args.entries.now c.index-entries-at.result refl c.requires.within c.requires.held (omega (arith, c.if-counted-at.false)) c.index-entries-at.is c.size.ensures in
    omega (arith, sum)
