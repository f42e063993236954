-- Where the first byte of a kind parts a list.
use Rattle.rl_session.proofs.Common.{arith, ◌≡◌, ◌≢◌, ℕ, suc, ◌<◌, List, [], ◌∷◌, ◌++◌, length, get_or, refl, AllByRecursion}

-- no byte is c
abbrev pub Lacks : ℕ → List ℕ → Type 0
Lacks c bytes = AllByRecursion (λ b. b ≢ c) bytes

pub Lacks-by_index : (c : ℕ) (bytes : List ℕ) → ((i : ℕ) → i < length bytes → get_or bytes i 0 ≢ c) → Lacks c bytes
Lacks-by_index c [] h = tt
Lacks-by_index c (b ∷ bs) h = (h 0 (omega arith), Lacks-by_index c bs (λ i l. h (suc i) (omega arith)))

-- the first c parts a list in one way
pub same_parts : (c : ℕ) (xs ys us vs : List ℕ) → Lacks c xs → Lacks c ys → xs ++ c ∷ us ≡ ys ++ c ∷ vs → (xs ≡ ys) × (us ≡ vs)
same_parts c [] [] us vs p q e = (refl, cc)
same_parts c [] (y ∷ ys) us vs p q e = absurd (q.0 cc)
same_parts c (x ∷ xs) [] us vs p q e = absurd (p.0 cc)
same_parts c (x ∷ xs) (y ∷ ys) us vs p q e = grind (arith, (same_parts c xs ys us vs p.1 q.1 cc))

pub Lacks-none : (c : ℕ) (xs ys : List ℕ) → Lacks c (xs ++ c ∷ ys) → ⊥
Lacks-none c [] ys h = h.0 refl
Lacks-none c (x ∷ xs) ys h = Lacks-none c xs ys h.1
