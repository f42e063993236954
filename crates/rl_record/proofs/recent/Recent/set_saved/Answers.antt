use Rattle.rl_record.proofs.Records.LeaveLemmas.{saved-leaves}
use Rattle.rl_record.proofs.recent.Recent.set_saved.Goals as goal

pub invariant_of-self : goal.invariant_of-self
invariant_of-self c = (saved-leaves c.self.inside.gone c.self.inside.tally _ _ _ c.self.invariant c.self.view_is c.set_saved.ensures).gone

pub returns : goal.returns
returns c = (saved-leaves c.self.inside.gone c.self.inside.tally _ _ _ c.self.invariant c.self.view_is c.set_saved.ensures).view
