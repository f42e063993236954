use Rattle.rl_base.proofs.Common.{◌≡◌, ◌++◌, ℕ, List, length, take, drop, All, texts}
use Rattle.rl_base.specs.Saving.{IsSized, sized_all}
use Rattle.rl_base.proofs.kill_ring.saved.load_slots.Given as goal

-- those so far were read, and the others stand next; written again, those so far and what is left are the bytes
abbrev pub invariant-loop-i : goal.invariant-loop-i
invariant-loop-i l = record {
  loaded : (slots : List (List ℕ)) (rest : List ℕ) → length slots ≡ l.count → All IsSized slots → l.fn.bytes ≡ sized_all slots ++ rest
      → (texts l.made.list.items ≡ take l.i slots) × (l.bytes ≡ sized_all (drop l.i slots) ++ rest);
  again : l.fn.bytes ≡ sized_all (texts l.made.list.items) ++ l.bytes;
  many : length l.made.list.items ≡ l.i;
  sized : All IsSized (texts l.made.list.items);
}
