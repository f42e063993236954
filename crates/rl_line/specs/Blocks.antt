-- A text in parts, one after another.
use Rattle.std.specs.List.{flat_map}
use Rattle.std.specs.Prelude.{Bool, List, length, nat_le, nat_lt, take, ℕ, ◌+◌, ◌<◌, ◌||◌, ◌≡◌}

-- a place of the text lies in part k, at a place there
pub record LiesIn {X : Type 0} (bytes : X → List ℕ) (parts : List X) (at k there : ℕ) : Type 0 where
  pub index : k < length parts
  pub place : at ≡ length (flat_map bytes (take k parts)) + there

-- a byte of a text is the first of a character
abbrev pub begins_character : ℕ → Bool
begins_character byte = nat_lt byte 128 || nat_le 192 byte
