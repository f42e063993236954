use Rattle.rl_record.proofs.Common.{arith, common_steps, rules}
use Rattle.rl_record.proofs.Records.UnitingLemmas.{AtLevel-united, unit-united, united-made}
use Rattle.rl_record.proofs.changeset.Changeset.unite.Goals as goal

pub invariant_of-self-2 : goal.invariant_of-self-2
invariant_of-self-2 c =
    AtLevel-united c.args.start c.self.inside.level c.self.inside.entries _
    (united-made c.args.start c.self.inside.entries _ (search rules) (grind (arith, common_steps)) (search rules) c.in_ok-group_from.ensures.done) c.self.invariant

pub returns-clause-unit : goal.returns-clause-unit
returns-clause-unit c =
    unit-united c.args.start c.args.self.now c.group_from.new.self (united-made c.args.start c.args.self.now _ (search rules) (grind (arith, common_steps)) (search rules) (search rules))
