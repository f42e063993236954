use Rattle.rl_record.proofs.Common.{Forward}
use Rattle.rl_record.proofs.Records.LeaveLemmas.{Delete-leaves}
use Rattle.rl_record.proofs.recent.Recent.delete.Goals as goal

pub invariant_of-self-2 : goal.invariant_of-self-2
invariant_of-self-2 c = (Delete-leaves c.self.inside.gone c.args.idx c.args.string.now Forward c.self.inside.tally _ _ _ c.self.invariant c.self.view_is c.in_ok-delete.ensures.done).gone

pub returns-clause-done : goal.returns-clause-done
returns-clause-done c = (Delete-leaves c.self.inside.gone c.args.idx c.args.string.now Forward c.self.inside.tally _ _ _ c.self.invariant c.self.view_is c.in_ok-delete.ensures.done).view
