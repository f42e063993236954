-- What is no number, and how a number's digits go on.
use Rattle.rl_session.proofs.Common.{arith, ◌≡◌, ◌≢◌, ℕ, ◌+◌, ◌-◌, ◌*◌, ◌^◌, ◌<◌, ◌≤◌, true, false, List, [], ◌∷◌, length, get_or, drop, Option, Some, None, refl, sym, ap, ◌∙◌, ◌&&◌, ◌==◌, nat_le, and-false, eqb-true, eqb-false, nat_tests, at_drop_more, nil_from_length, are_digits, value_from}
use native.Mathlib.Nat.{pow-le-pow_right}
use Rattle.rl_session.specs.Spelling.{number_of}
use Rattle.std.proofs.lemmas.Grind.{common_steps}

grows : (n : ℕ) (ds : List ℕ) → n ≤ value_from n ds
grows n [] = omega arith
grows n (d ∷ ds) = let more : n * 10 + (d - 48) ≤ value_from (n * 10 + (d - 48)) ds = grows (n * 10 + (d - 48)) ds in omega arith

pub number-nothing : (g : ℕ) (bs : List ℕ) → bs ≡ [] → None ≡ number_of g bs
unfolding number_of
number-nothing g bs h = rw h refl

pub number-bad : (g i : ℕ) (bs : List ℕ) → i < length bs → are_digits (drop i bs) ≡ are_digits bs
    → (nat_le 48 (get_or bs i 0) && nat_le (get_or bs i 0) 57) ≡ false → None ≡ number_of g bs
unfolding number_of
number-bad g i bs h all bad = grind (arith, common_steps, and-false)

pub number-great : (g i v : ℕ) (bs : List ℕ) → i < length bs → value_from v (drop i bs) ≡ value_from 0 bs
    → g < v * 10 + (get_or bs i 0 - 48) → None ≡ number_of g bs
unfolding number_of
number-great g i v bs h all great =
    let on : value_from v (drop i bs) ≡ value_from (v * 10 + (get_or bs i 0 - 48)) (drop (i + 1) bs) = at_drop_more (value_from v) bs i 0 h in
    let more : v * 10 + (get_or bs i 0 - 48) ≤ value_from (v * 10 + (get_or bs i 0 - 48)) (drop (i + 1) bs) = grows _ (drop (i + 1) bs) in
    let past : nat_le (value_from 0 bs) g ≡ false = grind (arith, nat_tests) in
    rw (past, and-false, and-false) refl

pub number-whole : (g v : ℕ) (bs : List ℕ) → 0 < length bs → are_digits bs ≡ true → v ≡ value_from 0 bs → v ≤ g → Some v ≡ number_of g bs
unfolding number_of
number-whole g v bs some all is fits = grind (arith)

-- what a test of the length tells
pub is_nil : (xs : List ℕ) → (length xs == 0) ≡ true → xs ≡ []
is_nil xs h = nil_from_length xs (eqb-true (length xs) 0 h)

pub not_nil : (xs : List ℕ) → (length xs == 0) ≡ false → xs ≢ []
not_nil xs h e = eqb-false (length xs) 0 h (ap length e)

pub some_length : (xs : List ℕ) → (length xs == 0) ≡ false → 0 < length xs
some_length xs h = let some = eqb-false (length xs) 0 h in omega (arith, some)

-- what an option holds is one
pub some_same : {A : Type 0} {x y : A} (o : Option A) → o ≡ Some x → o ≡ Some y → x ≡ y
some_same o p q = let both = sym p ∙ q in cc

-- an option that is none holds nothing
pub none_holds : {A : Type 0} {x : A} (o : Option A) → None ≡ o → o ≡ Some x → ⊥
none_holds o p q = let both = p ∙ q in absurd cc

-- the value of six hexadecimal digits at most
pub hex-small : (k n : ℕ) → k < 6 → n < 16 ^ k → n < 1048576
hex-small k n h p = let m : 16 ^ k ≤ 16 ^ 5 = (let one : 0 < 16 = omega arith in let le : k ≤ 5 = omega arith in pow-le-pow_right one le) in omega arith

pub ruleset numbers = (number-nothing, is_nil)
