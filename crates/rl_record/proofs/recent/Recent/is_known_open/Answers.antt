use Rattle.rl_record.proofs.Common.{arith, eqb-true, ◌-◌}
use Rattle.rl_record.proofs.Records.TallyLemmas.{front-len, open-kept, open-last}
use Rattle.rl_record.proofs.recent.Recent.is_known_open.Goals as goal

pub overflow_sub-left : goal.overflow_sub-left
overflow_sub-left c = omega (arith, c.self.invariant.counts.looked, c.len.ensures.len)

pub returns : goal.returns
returns c = λ yes.
    let one = eqb-true _ _ yes in
    let k = c.self.inside.gone in
    open-last c.args.self.now.recorded (c.self.inside.tally.opened - k)
    (omega (arith, one, c.if-self.false, c.self.invariant.counts.looked, c.len.ensures.len, front-len k c.len.result c.self.inside.all c.args.self.now c.self.view_is c.len.ensures.len))
    (open-kept k c.self.inside.tally c.self.inside.all c.args.self.now c.self.invariant c.self.view_is c.if-self.false) (omega (arith, c.if-groups-eq0.false, c.requires))
