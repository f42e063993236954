use Rattle.rl_record.proofs.Records.LeaveLemmas.{fresh-leaves}
use Rattle.rl_record.proofs.recent.Recent.go_on.Goals as goal

pub invariant_of-self : goal.invariant_of-self
invariant_of-self c = (fresh-leaves c.self.inside.gone c.args.fresh c.self.inside.tally _ _ _ c.self.invariant c.self.view_is c.go_on.ensures).gone

pub returns : goal.returns
returns c = (fresh-leaves c.self.inside.gone c.args.fresh c.self.inside.tally _ _ _ c.self.invariant c.self.view_is c.go_on.ensures).view
