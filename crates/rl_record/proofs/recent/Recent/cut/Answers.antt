use Rattle.rl_record.proofs.Common.{arith, refl, ◌+◌, ◌-◌}
use Rattle.rl_record.proofs.Records.LeaveLemmas.{cut-leaves, is-within, within-same}
use Rattle.rl_record.proofs.recent.Recent.cut.Goals as goal

pub invariant_of-self-2 : goal.invariant_of-self-2
invariant_of-self-2 c = (cut-leaves c.self.inside.gone c.args.recorded _ c.self.inside.tally _ c.self.inside.all c.args.self.now _ c.self.invariant c.self.view_is (is-within _ _ _ c.recorded.result.now _ c.recorded.ensures c.within-self-inside.ensures.counted c.within-self-inside.ensures.held c.within-self-inside.ensures.opened) (omega (arith, c.saturating_sub.ensures)) c.requires.within c.cut-2.ensures).gone

pub returns : goal.returns
returns c = (cut-leaves c.self.inside.gone c.args.recorded _ c.self.inside.tally _ c.self.inside.all c.args.self.now _ c.self.invariant c.self.view_is (is-within _ _ _ c.recorded.result.now _ c.recorded.ensures c.within-self-inside.ensures.counted c.within-self-inside.ensures.held c.within-self-inside.ensures.opened) (omega (arith, c.saturating_sub.ensures)) c.requires.within c.cut-2.ensures).view

pub invariant_of-self : goal.invariant_of-self
invariant_of-self c = (cut-leaves c.self.inside.gone c.args.recorded ((c.self.inside.gone + c.args.recorded) - 1) c.self.inside.tally c.self.inside.tally c.self.inside.all c.args.self.now _ c.self.invariant c.self.view_is (within-same c.self.inside.gone ((c.self.inside.gone + c.args.recorded) - 1) c.self.inside.tally c.self.inside.all.recorded c.self.invariant (omega (arith, (c.is_below.ensures c.if-is_below.true).0)) (omega (arith, (c.is_below.ensures c.if-is_below.true).1))) refl c.requires.within c.cut.ensures).gone

pub returns-then-is_below : goal.returns-then-is_below
returns-then-is_below c = (cut-leaves c.self.inside.gone c.args.recorded ((c.self.inside.gone + c.args.recorded) - 1) c.self.inside.tally c.self.inside.tally c.self.inside.all c.args.self.now _ c.self.invariant c.self.view_is (within-same c.self.inside.gone ((c.self.inside.gone + c.args.recorded) - 1) c.self.inside.tally c.self.inside.all.recorded c.self.invariant (omega (arith, (c.is_below.ensures c.if-is_below.true).0)) (omega (arith, (c.is_below.ensures c.if-is_below.true).1))) refl c.requires.within c.cut.ensures).view
