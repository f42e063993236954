use Rattle.rl_base.proofs.Common.{◌<◌, length, refl, arith, length-map, Gathering, texts}
use Rattle.rl_base.proofs.Ring.RingLemmas.{join-past, joins-err}
use Rattle.rl_base.proofs.kill_ring.slots.join_at.Goals as goal

pub returns-in-Some-clause-err : goal.returns-in-Some-clause-err
returns-in-Some-clause-err c =
    let slots = c.args.slots.now in
    let below : c.args.index < length slots.items = omega (arith, slots.ok.0, c.in-Some.ensures.variant.0 refl) in
    joins-err slots.items c.args.index c.args.text.now c.in-Some.slot.now c.join_to.new.slot c.join_to.result below c.in-Some.ensures.value c.join_to.ensures.err

pub returns-clause-ok : goal.returns-clause-ok
returns-clause-ok c =
    let slots = c.args.slots.now in
    join-past (texts slots.items) c.args.index c.args.mode c.args.text.now
    (λ l. let none = c.in_default.ensures.variant.1 (omega (arith, slots.ok.0, l, length-map slots.items (λ (g : Gathering). g.text))) in cc)
