use Rattle.rl_record.proofs.Records.LeaveLemmas.{InsertStr-leaves}
use Rattle.rl_record.proofs.recent.Recent.insert_str.Goals as goal

pub invariant_of-self-2 : goal.invariant_of-self-2
invariant_of-self-2 c = (InsertStr-leaves c.self.inside.gone c.args.idx c.args.string.now c.self.inside.tally _ _ _ c.self.invariant c.self.view_is c.in_ok-insert_str.ensures.done).gone

pub returns-clause-done : goal.returns-clause-done
returns-clause-done c = (InsertStr-leaves c.self.inside.gone c.args.idx c.args.string.now c.self.inside.tally _ _ _ c.self.invariant c.self.view_is c.in_ok-insert_str.ensures.done).view
