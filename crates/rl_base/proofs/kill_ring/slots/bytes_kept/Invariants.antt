use Rattle.rl_base.proofs.Common.{◌≡◌, ◌+◌, back_from, drop, length, sum_by, take, texts}
use Rattle.rl_base.proofs.kill_ring.slots.bytes_kept.Given as goal

-- those that were not passed yet are still counted
abbrev pub invariant-loop-back : goal.invariant-loop-back
invariant-loop-back l =
    let ts = back_from l.newest (texts l.slots) in l.bytes ≡ sum_by length (take l.kept ts) + sum_by length (drop l.back ts)
