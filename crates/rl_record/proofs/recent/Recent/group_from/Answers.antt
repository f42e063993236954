use Rattle.rl_record.proofs.Records.LeaveLemmas.{grouped-leaves, is-within, tally-leaves}
use Rattle.rl_record.proofs.recent.Recent.group_from.Goals as goal

pub invariant_of-self-2 : goal.invariant_of-self-2
invariant_of-self-2 c = (grouped-leaves c.self.inside.gone c.args.from c.self.inside.tally _ c.self.inside.all c.args.self.now _ c.self.invariant c.self.view_is (is-within _ _ _ c.recorded.result.now _ c.recorded.ensures c.within-self-inside.ensures.counted c.within-self-inside.ensures.held c.within-self-inside.ensures.opened) c.requires.within c.in_ok-group_from.ensures.done).gone

pub returns-clause-done : goal.returns-clause-done
returns-clause-done c = (grouped-leaves c.self.inside.gone c.args.from c.self.inside.tally _ c.self.inside.all c.args.self.now _ c.self.invariant c.self.view_is (is-within _ _ _ c.recorded.result.now _ c.recorded.ensures c.within-self-inside.ensures.counted c.within-self-inside.ensures.held c.within-self-inside.ensures.opened) c.requires.within c.in_ok-group_from.ensures.done).view

pub invariant_of-self : goal.invariant_of-self
invariant_of-self c = (tally-leaves c.self.inside.gone _ c.self.inside.tally _ c.self.inside.all c.args.self.now _ c.self.invariant c.self.view_is (is-within _ _ _ c.recorded.result.now _ c.recorded.ensures c.within-self-inside.ensures.counted c.within-self-inside.ensures.held c.within-self-inside.ensures.opened) c.in_err-group_from.ensures.err.1).gone
