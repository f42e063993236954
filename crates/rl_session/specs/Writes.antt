-- What the private functions of the printer say to one another.
use Rattle.std.specs.Prelude.{◌≡◌, ℕ, ◌==◌, ◌<◌, ◌≤◌, Bool, false, ◌||◌, ◌&&◌, List, slice_index}

-- the bytes that are printed as two: backslash, newline, carriage return and tab, and in a text among words the space
abbrev pub is_special : Bool → ℕ → Bool
is_special spaces b = (b == 92) || ((b == 10) || ((b == 13) || ((b == 9) || (spaces && (b == 32)))))

-- the bytes from one place up to another, exclusive, are printed as they are
abbrev pub ArePlain : Bool → List ℕ → ℕ → ℕ → Type 0
ArePlain spaces text from to = (k : ℕ) → from ≤ k → k < to → is_special spaces (slice_index text k) ≡ false
