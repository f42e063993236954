-- What is written for a text is read as that text.
use Rattle.rl_session.proofs.Common.{◌==◌, ◌&&◌, if◌then◌else◌, arith, ◌≡◌, ◌≢◌, ℕ, Bool, true, false, List, ◌<◌, [], ◌∷◌, ◌++◌, Some, refl, subst, inl, inr, eqb_tells, encode_ascii, letter_of, Spells, letter, plain, escaped}
use Rattle.rl_session.specs.Spelling.{nothing, escape}
use Rattle.rl_session.specs.Print.{escape as escape_of}

by_letter : (b c : ℕ) (bytes text : List ℕ) → c < 128 → letter_of b ≡ Some c → Spells bytes text → Spells (92 ∷ b ∷ bytes) (c ∷ text)
by_letter b c bytes text small is s = subst (λ l. Spells (92 ∷ b ∷ bytes) (l ++ text)) (encode_ascii c small) (escape (letter is) s)

space-read : (spaces : Bool) (b : ℕ) (bytes text : List ℕ) → b ≢ 92 → Spells bytes text
    → Spells ((if spaces && (b == 32) then 92 ∷ 115 ∷ [] else b ∷ []) ++ bytes) (b ∷ text)
space-read false b bytes text n s = plain n s
space-read true b bytes text n s =
    elim (eqb_tells b 32) [ inl p ↦ rw p.1 (by_letter 115 32 bytes text (omega arith) refl s) | inr p ↦ rw p.0 (plain n s) ]

byte-read : (spaces : Bool) (b : ℕ) (bytes text : List ℕ) → Spells bytes text → Spells (escape_of spaces b ++ bytes) (b ∷ text)
byte-read spaces b bytes text s = grind (arith, eqb_tells, by_letter, space-read)

pub escaped_read : (spaces : Bool) (t : List ℕ) → Spells (escaped spaces t) t
escaped_read spaces [] = nothing
escaped_read spaces (b ∷ bs) = byte-read spaces b (escaped spaces bs) bs (escaped_read spaces bs)
