-- What a mask of some bytes says of each.
use Rattle.rl_session.proofs.Common.{nat_tests, ◌≡◌, ℕ, ◌≤◌, ◌%◌, ◌^◌, Bool, true, false, cond, eqb, ◌∷◌, ◌++◌, [], List, map, length, take, drop, zero, suc, refl, ap, ap₂, ◌∙◌, arith, w8, Fits, inl, inr, mask_l-mod, zip2_of_maps, length-map, agree_below, agree_below_at, cases_lt, escaped, is_special, ArePlain}
use lib.Bits.{bit_or}
use lib.Lanes.{zip2, mask_l, top, Each1}
use Rattle.rl_session.specs.Print.{escape}

-- a comparison of two bytes
abbrev pub hit : ℕ → ℕ → ℕ
hit a b = cond (eqb a b) 255 0

pub either : (f g : ℕ → ℕ) (v : List ℕ) {a b : List ℕ} → a ≡ map f v → b ≡ map g v → zip2 bit_or a b ≡ map (λ x. bit_or (f x) (g x)) v
either f g v p q = zip2_of_maps bit_or f g v p q

each_byte : (f : ℕ → ℕ) (p : ℕ → Bool) → agree_below (λ x. top 7 (f x)) p 256 ≡ true → (v : List ℕ) → Each1 (Fits w8) v → map (top 7) (map f v) ≡ map p v
each_byte f p all [] fits = refl
each_byte f p all (x ∷ xs) fits = ap₂ (λ a b. a ∷ b) (agree_below_at (λ y. top 7 (f y)) p 256 x all fits.0.fits) (each_byte f p all xs fits.1)

-- a mask that was made lane by lane, where that says what p says of each byte
pub masked : (f : ℕ → ℕ) (p : ℕ → Bool) (v z : List ℕ) → length v ≤ 64 → Each1 (Fits w8) v → z ≡ map f v → agree_below (λ x. top 7 (f x)) p 256 ≡ true
    → mask_l (map (top 7) z) % 2 ^ 64 ≡ mask_l (map p v)
masked f p v z short fits e all =
    ap (λ l. mask_l l % 2 ^ 64) (ap (map (top 7)) e ∙ each_byte f p all v fits) ∙ mask_l-mod (map p v) 64 (omega (arith, length-map v p))

-- a byte that is printed as it is
lone : (spaces : Bool) (b : ℕ) → is_special spaces b ≡ false → escape spaces b ≡ b ∷ []
lone spaces b h = grind (arith, nat_tests)

-- what is printed as it is stands first in what is printed
pub plain-front : (spaces : Bool) (text : List ℕ) (n : ℕ) → n ≤ length text → ArePlain spaces text 0 n
    → escaped spaces text ≡ take n text ++ escaped spaces (drop n text)
plain-front spaces text zero l h = refl
plain-front spaces [] (suc n) l h = absurd (omega arith)
plain-front spaces (b ∷ bs) (suc n) l h =
    ap (λ front. front ++ escaped spaces bs) (lone spaces b (h 0 (omega arith) (omega arith)))
    ∙ ap (λ rest. b ∷ rest) (plain-front spaces bs n (omega arith) (λ k from to. h (suc k) (omega arith) (omega arith)))

-- two parts, which may overlap
pub ArePlain-both : (spaces : Bool) (text : List ℕ) (i from to : ℕ) → ArePlain spaces text 0 i → ArePlain spaces text from to → from ≤ i → ArePlain spaces text 0 to
ArePlain-both spaces text i from to front back meets k a b = elim (cases_lt k i) [ inl before ↦ front k a before | inr not_before ↦ back k (omega arith) b ]

-- for attributes, which cannot name a lemma with a dash
pub ruleset fronts = (plain-front)
