-- Equality of all that a value holds, and clones that are the value.
use Rattle.std.specs.Prelude.{◌≡◌, ◌↔◌, Bool, true}

-- an equality that is true of two values exactly if they are the same
abbrev pub IsSameness : {A : Type 0} → (A → A → Bool) → Type 0
IsSameness {A} eq = (a b : A) → (eq a b ≡ true) ↔ (a ≡ b)

-- a clone is the value that was cloned, and no clone is refused
abbrev pub IsCopying : {A : Type 0} → (A → A → Type 0) → (A → Type 0) → Type 0
IsCopying {A} is_clone is_infallible = ((a b : A) → is_clone a b → b ≡ a) × ((a : A) → is_infallible a)
