use Rattle.rl_record.proofs.Records.LeaveLemmas.{InsertChar-leaves}
use Rattle.rl_record.proofs.recent.Recent.insert_char.Goals as goal

pub invariant_of-self-2 : goal.invariant_of-self-2
invariant_of-self-2 c = (InsertChar-leaves c.self.inside.gone c.args.idx c.args.c c.self.inside.tally _ _ _ c.self.invariant c.self.view_is c.in_ok-insert_char.ensures.done).gone

pub returns-clause-done : goal.returns-clause-done
returns-clause-done c = (InsertChar-leaves c.self.inside.gone c.args.idx c.args.c c.self.inside.tally _ _ _ c.self.invariant c.self.view_is c.in_ok-insert_char.ensures.done).view
