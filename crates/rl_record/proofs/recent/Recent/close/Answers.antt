use Rattle.rl_record.proofs.Common.{arith, ◌∙◌}
use Rattle.rl_record.proofs.Records.LeaveLemmas.{closed-leaves, is-within, tally-leaves}
use Rattle.rl_record.proofs.Records.TallyLemmas.{adds-same}
use Rattle.rl_record.proofs.recent.Recent.close.Goals as goal

pub invariant_of-self-2 : goal.invariant_of-self-2
invariant_of-self-2 c = (closed-leaves c.self.inside.gone c.args.count _ c.self.inside.tally _ c.self.inside.all c.args.self.now _ c.self.invariant c.self.view_is (is-within _ _ _ c.recorded.result.now _ c.recorded.ensures c.within-self-inside.ensures.counted c.within-self-inside.ensures.held c.within-self-inside.ensures.opened) (omega (arith, c.saturating_sub.ensures, c.saturating_sub-left.ensures, c.len.ensures.len)) c.in_ok-added.ensures.done.1).gone

pub returns-clause-done : goal.returns-clause-done
returns-clause-done c = (c.in_ok-added.ensures.done.0 ∙ adds-same c.self.inside.gone c.args.count c.self.inside.tally c.self.inside.all c.args.self.now c.self.invariant c.self.view_is, (closed-leaves c.self.inside.gone c.args.count _ c.self.inside.tally _ c.self.inside.all c.args.self.now _ c.self.invariant c.self.view_is (is-within _ _ _ c.recorded.result.now _ c.recorded.ensures c.within-self-inside.ensures.counted c.within-self-inside.ensures.held c.within-self-inside.ensures.opened) (omega (arith, c.saturating_sub.ensures, c.saturating_sub-left.ensures, c.len.ensures.len)) c.in_ok-added.ensures.done.1).view)

pub invariant_of-self : goal.invariant_of-self
invariant_of-self c = (tally-leaves c.self.inside.gone _ c.self.inside.tally _ c.self.inside.all c.args.self.now _ c.self.invariant c.self.view_is (is-within _ _ _ c.recorded.result.now _ c.recorded.ensures c.within-self-inside.ensures.counted c.within-self-inside.ensures.held c.within-self-inside.ensures.opened) c.in_err-added.ensures.err.1).gone
