-- Numbers and texts as bytes, one after another, as what is saved has them.
use Rattle.std.specs.Prelude.{◌≡◌, ℕ, ◌<◌, ◌^◌, List, ◌++◌, length, Result, Ok, Err}
use Rattle.std.specs.List.{flat_map}
use Rattle.std.specs.Str.{IsUtf8}
use Rattle.byteorder.specs.Endian.{little_bytes}
use Rattle.rl_base.specs.declared.saving.Width.{Width}
use Rattle.rl_base.specs.declared.saving.Width.TheVariants.{Four, Eight}
use Rattle.rl_base.specs.declared.saving.LoadFault.{LoadFault}
use Rattle.rl_base.specs.declared.saving.LoadFault.TheVariants.{NoMemory, Unknown}

-- how many bytes a number takes, and that it fits them
abbrev pub size : Width → ℕ
size Four = 4
size Eight = 8

abbrev pub Fits : Width → ℕ → Type 0
Fits width n = n < 256 ^ size width

-- a number, its lowest byte first, and numbers one after another
unfoldable pub number : Width → ℕ → List ℕ
number width n = little_bytes (size width) n

unfoldable pub numbers : Width → List ℕ → List ℕ
numbers width ns = flat_map (number width) ns

-- a text with its length before it, and texts so, one after another
unfoldable pub sized : List ℕ → List ℕ
sized text = number Eight (length text) ++ text

-- a text that can be read again
pub record IsSized (text : List ℕ) : Type 0 where
  pub fits : Fits Eight (length text)
  pub utf8 : IsUtf8 text

unfoldable pub sized_all : List (List ℕ) → List ℕ
sized_all texts = flat_map sized texts

-- why a part was not loaded: not since the version is unknown
abbrev pub IsOfPart : LoadFault → Type 0
IsOfPart why = why ≡ Unknown → ⊥

-- what was loaded is this, unless memory is out
abbrev pub Loads : {A : Type 0} → A → Result A LoadFault → Type 0
Loads x (Ok y) = y ≡ x
Loads x (Err why) = why ≡ NoMemory
