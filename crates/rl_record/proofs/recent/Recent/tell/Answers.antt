use Rattle.rl_record.proofs.Records.LeaveLemmas.{Cursors-leaves}
use Rattle.rl_record.proofs.recent.Recent.tell.Goals as goal

pub invariant_of-self : goal.invariant_of-self
invariant_of-self c = (Cursors-leaves c.self.inside.gone c.args.before c.args.after c.self.inside.tally _ _ _ c.self.invariant c.self.view_is c.tell.ensures).gone

pub returns : goal.returns
returns c = (Cursors-leaves c.self.inside.gone c.args.before c.args.after c.self.inside.tally _ _ _ c.self.invariant c.self.view_is c.tell.ensures).view
