use Rattle.rl_session.proofs.Common.{arith, ap, ◌<◌, length}
use Rattle.rl_session.proofs.Scripts.NumberLemmas.{hex-small}
use Rattle.rl_session.proofs.spelling.named_char.Goals as goal

pub overflow_mul-value : goal.overflow_mul-value
overflow_mul-value c =
    let six : c.loop-b.b-index < 6 = omega (arith, ap length c.as_bytes-b-items.ensures.value) in
    let small = hex-small c.loop-b.b-index c.loop-b.value six c.loop-b.invariant.small in omega arith

pub overflow_add-value : goal.overflow_add-value
overflow_add-value c =
    let six : c.loop-b.b-index < 6 = omega (arith, ap length c.as_bytes-b-items.ensures.value) in
    let small = hex-small c.loop-b.b-index c.loop-b.value six c.loop-b.invariant.small in omega (arith, c.in_ok-value.ensures.bound)
