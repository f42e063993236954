use Rattle.rl_base.proofs.Common.{◌≡◌, ◌++◌, ℕ, List, length, take, drop, All}
use Rattle.rl_base.specs.Saving.{Fits, numbers}
use Rattle.rl_base.proofs.saving.Unread.numbers.Given as goal

-- those so far were read, and the others stand next; written again, those so far and what is left are the bytes
abbrev pub invariant-loop-i : goal.invariant-loop-i
invariant-loop-i l = record {
  len : length l.found ≡ length l.fn.found;
  read : (ns rest : List ℕ) → length ns ≡ length l.fn.found → All (Fits l.width) ns → l.fn.self ≡ numbers l.width ns ++ rest
      → (take l.i l.found ≡ take l.i ns) × (l.self ≡ numbers l.width (drop l.i ns) ++ rest);
  again : l.fn.self ≡ numbers l.width (take l.i l.found) ++ l.self;
  fit : All (Fits l.width) (take l.i l.found);
}
