use Rattle.rl_record.proofs.Records.LeaveLemmas.{Replace-leaves}
use Rattle.rl_record.proofs.recent.Recent.replace.Goals as goal

pub invariant_of-self-2 : goal.invariant_of-self-2
invariant_of-self-2 c = (Replace-leaves c.self.inside.gone c.args.idx c.args.old.now c.args.new.now c.self.inside.tally _ _ _ c.self.invariant c.self.view_is c.in_ok-replace.ensures.done).gone

pub returns-clause-done : goal.returns-clause-done
returns-clause-done c = (Replace-leaves c.self.inside.gone c.args.idx c.args.old.now c.args.new.now c.self.inside.tally _ _ _ c.self.invariant c.self.view_is c.in_ok-replace.ensures.done).view
