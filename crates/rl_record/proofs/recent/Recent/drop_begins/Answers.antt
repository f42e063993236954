use Rattle.rl_record.proofs.Common.{arith}
use Rattle.rl_record.proofs.Records.LeaveLemmas.{dropped-leaves, is-within}
use Rattle.rl_record.proofs.recent.Recent.drop_begins.Goals as goal

pub invariant_of-self : goal.invariant_of-self
invariant_of-self c = (dropped-leaves c.self.inside.gone c.args.count _ c.self.inside.tally _ c.self.inside.all c.args.self.now _ c.self.invariant c.self.view_is (is-within _ _ _ c.recorded.result.now _ c.recorded.ensures c.within-self-inside.ensures.counted c.within-self-inside.ensures.held c.within-self-inside.ensures.opened) (omega (arith, c.saturating_sub-left.ensures, c.len.ensures.len)) c.drop_begins.ensures).gone

pub returns : goal.returns
returns c = (dropped-leaves c.self.inside.gone c.args.count _ c.self.inside.tally _ c.self.inside.all c.args.self.now _ c.self.invariant c.self.view_is (is-within _ _ _ c.recorded.result.now _ c.recorded.ensures c.within-self-inside.ensures.counted c.within-self-inside.ensures.held c.within-self-inside.ensures.opened) (omega (arith, c.saturating_sub-left.ensures, c.len.ensures.len)) c.drop_begins.ensures).view
