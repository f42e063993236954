use Rattle.rl_record.proofs.Common.{arith}
use Rattle.rl_record.proofs.Records.LeaveLemmas.{is-within, truncated-leaves}
use Rattle.rl_record.proofs.Records.TallyLemmas.{front-len}
use Rattle.rl_record.proofs.recent.Recent.truncate.Goals as goal

pub invariant_of-self : goal.invariant_of-self
invariant_of-self c = (truncated-leaves c.self.inside.gone c.min.result c.args.len _ c.self.inside.tally _ c.self.inside.all c.args.self.now _ c.self.invariant c.self.view_is (is-within _ _ _ c.recorded.result.now _ c.recorded.ensures c.within-self-inside.ensures.counted c.within-self-inside.ensures.held c.within-self-inside.ensures.opened) (omega (arith, c.min.ensures, front-len c.self.inside.gone c.len.result c.self.inside.all c.args.self.now c.self.view_is c.len.ensures.len)) (omega (arith, c.saturating_sub.ensures)) c.truncate.ensures).gone

pub returns : goal.returns
returns c = (truncated-leaves c.self.inside.gone c.min.result c.args.len _ c.self.inside.tally _ c.self.inside.all c.args.self.now _ c.self.invariant c.self.view_is (is-within _ _ _ c.recorded.result.now _ c.recorded.ensures c.within-self-inside.ensures.counted c.within-self-inside.ensures.held c.within-self-inside.ensures.opened) (omega (arith, c.min.ensures, front-len c.self.inside.gone c.len.result c.self.inside.all c.args.self.now c.self.view_is c.len.ensures.len)) (omega (arith, c.saturating_sub.ensures)) c.truncate.ensures).view
