use Rattle.rl_record.proofs.Records.LeaveLemmas.{parted-leaves}
use Rattle.rl_record.proofs.recent.Recent.part.Goals as goal

pub invariant_of-self : goal.invariant_of-self
invariant_of-self c = (parted-leaves c.self.inside.gone c.self.inside.tally _ _ _ c.self.invariant c.self.view_is c.part.ensures).gone

pub returns : goal.returns
returns c = (parted-leaves c.self.inside.gone c.self.inside.tally _ _ _ c.self.invariant c.self.view_is c.part.ensures).view
