use Rattle.rl_record.proofs.Common.{ap, arith, min, refl}
use Rattle.rl_record.proofs.Records.EntryLemmas.{size-done, size-found, size-past}
use Rattle.rl_record.proofs.units.open_size_to.Goals as goal

pub returns-then-units-most-clause-same : goal.returns-then-units-most-clause-same
returns-then-units-most-clause-same c = size-past c.args.most c.args.entries.now c.loop-at.at c.loop-at.depth c.loop-at.units c.if-units-most.true c.requires c.loop-at.invariant

pub returns-in-Begin-clause-same : goal.returns-in-Begin-clause-same
returns-in-Begin-clause-same c =
    ap (min c.args.most) (size-found c.args.entries.now c.loop-at.at c.loop-at.depth c.loop-at.units _ _ c.loop-at-test.true c.if-depth-eq0.true c.in-Begin.is refl c.requires c.loop-at.invariant)

pub returns-in-Begin-clause-few : goal.returns-in-Begin-clause-few
returns-in-Begin-clause-few c = omega (arith, c.loop-at.invariant.few, c.loop-at-test.true)

pub returns-clause-same : goal.returns-clause-same
returns-clause-same c = ap (min c.args.most) (size-done c.args.entries.now c.loop-at.at c.loop-at.depth c.loop-at.units (omega (arith, c.loop-at-test.false)) c.requires c.loop-at.invariant)

pub returns-clause-few : goal.returns-clause-few
returns-clause-few c = omega (arith, c.loop-at.invariant.few)
