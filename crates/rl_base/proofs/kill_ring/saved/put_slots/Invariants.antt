use Rattle.rl_base.proofs.Common.{◌≡◌, ◌++◌, take, All, texts}
use Rattle.rl_base.specs.Saving.{IsSized, sized_all}
use Rattle.rl_base.proofs.kill_ring.saved.put_slots.Given as goal

-- those so far were put
abbrev pub invariant-loop-slot : goal.invariant-loop-slot
invariant-loop-slot l = record {
  put : l.out.items ≡ l.fn.out.items ++ sized_all (take l.slot-index (texts l.slots));
  fit : All IsSized (take l.slot-index (texts l.slots));
}
