use Rattle.rl_record.proofs.Records.LeaveLemmas.{opened-leaves}
use Rattle.rl_record.proofs.recent.Recent.open_group.Goals as goal

pub invariant_of-self-2 : goal.invariant_of-self-2
invariant_of-self-2 c = (opened-leaves c.self.inside.gone c.self.inside.tally _ _ _ c.self.invariant c.self.view_is c.in_ok-open_group.ensures.done).gone

pub returns-clause-done : goal.returns-clause-done
returns-clause-done c = (opened-leaves c.self.inside.gone c.self.inside.tally _ _ _ c.self.invariant c.self.view_is c.in_ok-open_group.ensures.done).view
