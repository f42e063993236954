use Rattle.rl_session.proofs.Common.{◌≤◌, arith}
use Rattle.rl_session.proofs.Scripts.LaneLemmas.{plain-front, ArePlain-both}
use Rattle.rl_session.proofs.print.plain_len.Goals as goal

pub returns-then-count-lt-LANES-clause-plain : goal.returns-then-count-lt-LANES-clause-plain
returns-then-count-lt-LANES-clause-plain c =
    let i = c.loop-i.i in
    let run = c.plain_lanes-count.ensures in
    let short : c.plain_lanes-count.result ≤ 16 = run.within in
    plain-front c.args.spaces c.args.text.now _ (omega (arith, short, c.loop-i-test.true))
    (ArePlain-both c.args.spaces c.args.text.now i i _ c.loop-i.invariant.plain run.plain (omega arith))

pub returns-clause-plain : goal.returns-clause-plain
returns-clause-plain c =
    let run = c.plain_lanes.ensures in
    let short : c.plain_lanes.result ≤ 16 = run.within in
    plain-front c.args.spaces c.args.text.now _ (omega (arith, short, c.if-text-lt-LANES.false))
    (ArePlain-both c.args.spaces c.args.text.now c.loop-i.i _ _ c.loop-i.invariant.plain run.plain c.loop-i-test.false)
