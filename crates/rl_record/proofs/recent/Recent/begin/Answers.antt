use Rattle.rl_record.proofs.Records.LeaveLemmas.{begun-leaves}
use Rattle.rl_record.proofs.recent.Recent.begin.Goals as goal

pub invariant_of-self-2 : goal.invariant_of-self-2
invariant_of-self-2 c = (begun-leaves c.self.inside.gone c.self.inside.tally _ _ _ c.self.invariant c.self.view_is c.in_ok-begin.ensures.done).gone

pub returns-clause-done : goal.returns-clause-done
returns-clause-done c = (begun-leaves c.self.inside.gone c.self.inside.tally _ _ _ c.self.invariant c.self.view_is c.in_ok-begin.ensures.done).view
