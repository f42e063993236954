use Rattle.rl_record.proofs.Records.LeaveLemmas.{kept-leaves}
use Rattle.rl_record.proofs.recent.Recent.keep_undone.Goals as goal

pub invariant_of-self-2 : goal.invariant_of-self-2
invariant_of-self-2 c = (kept-leaves c.self.inside.gone c.self.inside.tally c.self.inside.all c.args.self.now _ c.self.invariant c.self.view_is c.in_ok-keep_undone.ensures.done).gone

pub returns-clause-done : goal.returns-clause-done
returns-clause-done c = (kept-leaves c.self.inside.gone c.self.inside.tally c.self.inside.all c.args.self.now _ c.self.invariant c.self.view_is c.in_ok-keep_undone.ensures.done).view
