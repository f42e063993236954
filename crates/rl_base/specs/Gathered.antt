-- A text with blanks before it.
use Rattle.std.specs.Prelude.{◌≡◌, ℕ, List, map, take, replicate, slice_get, IfSome}

-- a text, and how many blanks stand before it
pub record Gathering : Type 0 where
  pub blanks : ℕ
  pub text : List ℕ

-- the texts alone
abbrev pub texts : List Gathering → List (List ℕ)
texts gs = map (λ g. g.text) gs

-- the text at an index, if there is one, has no blanks before it
abbrev pub IsPackedAt : ℕ → List Gathering → Type 0
IsPackedAt i gs = IfSome (slice_get gs i) (λ g. g.blanks ≡ 0)

-- what begins with n blanks
abbrev pub BeginsBlank : ℕ → List ℕ → Type 0
BeginsBlank n bytes = take n bytes ≡ replicate n 32
