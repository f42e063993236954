use Rattle.rl_base.proofs.Common.{◌≡◌, ◌++◌, take, All}
use Rattle.rl_base.specs.Saving.{Fits, numbers}
use Rattle.rl_base.proofs.saving.put_numbers.Given as goal

-- those so far were put, and fit
abbrev pub invariant-loop-number : goal.invariant-loop-number
invariant-loop-number l = record {
  put : l.out.items ≡ l.fn.out.items ++ numbers l.width (take l.number-index l.given);
  fit : All (Fits l.width) (take l.number-index l.given);
}
