-- A kill ring as bytes.
use Rattle.std.specs.Prelude.{◌≡◌, ℕ, false, List, [], ◌∷◌, ◌++◌, All, length}
use Rattle.rl_base.specs.KillRing.{IsRing, Ring}
use Rattle.rl_base.specs.Saving.{Fits, IsSized, numbers, sized_all}
use Rattle.rl_base.specs.declared.kill_ring.Action.{Action}
use Rattle.rl_base.specs.declared.kill_ring.Action.TheVariants.{Kill, Yank, Other}
use Rattle.rl_base.specs.declared.kill_ring.NewKill.{NewKill}
use Rattle.rl_base.specs.declared.kill_ring.NewKill.TheVariants.{AfterCurrent, AfterNewest}
use Rattle.rl_base.specs.declared.saving.Width.TheVariants.{Eight}

-- the rule of new kills as a number
abbrev pub rule_number : NewKill → ℕ
rule_number AfterCurrent = 0
rule_number AfterNewest = 1

-- what was done last, and how many bytes were yanked
abbrev pub last_number : Action → ℕ
last_number Kill = 0
last_number (Yank _) = 1
last_number Other = 2

abbrev pub yanked_number : Action → ℕ
yanked_number (Yank size) = size
yanked_number _ = 0

-- the numbers of a ring, the last of which is how many slots it has
abbrev pub ring_numbers : Ring → List ℕ
ring_numbers r = r.size ∷ rule_number r.rule ∷ r.index ∷ r.newest ∷ last_number r.last ∷ yanked_number r.last ∷ length r.slots ∷ []

-- a ring as bytes: its numbers, and then its slots
abbrev pub saved_ring : Ring → List ℕ
saved_ring r = numbers Eight (ring_numbers r) ++ sized_all r.slots

-- a ring that such bytes are read as: no kill is on, and each slot is a text that can be read again
pub record IsSavedRing (r : Ring) : Type 0 where
  pub ring : IsRing r
  pub idle : r.killing ≡ false
  pub fit : All (Fits Eight) (ring_numbers r)
  pub texts : All IsSized r.slots
