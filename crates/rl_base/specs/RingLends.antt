-- What a ring is once a slot that it lent is given back.
use Rattle.std.specs.Prelude.{◌≡◌, ⊤}
use Rattle.std.specs.Borrow.{MutBor, Fml, follows_so}
use mathlib.Core.Option.{none}
use Rattle.rl_base.specs.KillRing.{Ring}
use Rattle.rl_base.specs.contracts.kill_ring.KillRing.{the_row}

-- the ring that was handed in is v then
abbrev pub EndsAs : MutBor Ring → Ring → Fml
EndsAs s v = follows_so the_row the_row s.ghost_name none (λ _ _. ⊤) (λ n. n ≡ v)
