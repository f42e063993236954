-- What is put after one another, and read again.
use Rattle.rl_base.proofs.Common.{◌≡◌, ℕ, ◌+◌, ◌<◌, List, ◌++◌, length, take, drop, sym, ap, ◌∙◌, append_assoc, take_more, drop_more, get_or}
use Rattle.rl_base.proofs.Common.{[], ◌∷◌, ◌-◌, ◌^◌, Ring, arith, length-append, min, refl, sum_by, sum_by-cons}
use Rattle.std.specs.List.{flat_map}
use Rattle.std.specs.Prelude.{◌*◌}
use Rattle.byteorder.specs.Endian.{little_number}
use Rattle.byteorder.specs.Numbers.{length-bytes_low_first, little_from-lt}
use Rattle.rl_base.specs.SavedRing.{ring_numbers, saved_ring}
use Rattle.rl_base.specs.Saving.{Fits, number, numbers, size, sized, sized_all}
use Rattle.rl_base.specs.declared.saving.Width.{Width}
use Rattle.rl_base.specs.declared.saving.Width.TheVariants.{Eight, Four}
use Rattle.std.proofs.lemmas.List.{flat_map_more}
use Rattle.std.proofs.lemmas.Nat.{le_bytes_4, le_bytes_8}

-- one more is put
pub put-more : {X : Type 0} (f : X → List ℕ) (bytes : List ℕ) (xs : List X) (i : ℕ) (d : X) → i < length xs
    → (bytes ++ flat_map f (take i xs)) ++ f (get_or xs i d) ≡ bytes ++ flat_map f (take (i + 1) xs)
put-more f bytes xs i d at = flat_map_more f bytes (take i xs) (get_or xs i d) ∙ ap (λ ys. bytes ++ flat_map f ys) (sym (take_more xs i d at))

-- the next one stands first in what is left
pub next-first : {X : Type 0} (f : X → List ℕ) (xs : List X) (rest : List ℕ) (i : ℕ) (d : X) → i < length xs
    → flat_map f (drop i xs) ++ rest ≡ f (get_or xs i d) ++ (flat_map f (drop (i + 1) xs) ++ rest)
next-first f xs rest i d at = ap (λ ys. flat_map f ys ++ rest) (drop_more xs i d at) ∙ append_assoc (f (get_or xs i d)) (flat_map f (drop (i + 1) xs)) rest

-- one more was read: written again, those so far and what is left are still the bytes
pub read-more : {X : Type 0} (f : X → List ℕ) (bytes left rest : List ℕ) (xs : List X) (x : X) → bytes ≡ flat_map f xs ++ left → left ≡ f x ++ rest
    → bytes ≡ flat_map f (xs ++ x ∷ []) ++ rest
read-more f bytes left rest xs x so next =
    so ∙ ap (λ more. flat_map f xs ++ more) next ∙ sym (append_assoc (flat_map f xs) (f x) rest) ∙ ap (λ front. front ++ rest) (flat_map_more f [] xs x)

-- ---- how long a saved ring is
length-number : (width : Width) (n : ℕ) → length (number width n) ≡ size width
unfolding number
length-number width n = length-bytes_low_first 0 (size width) n

length-sized : (text : List ℕ) → length (sized text) ≡ 8 + length text
unfolding sized
length-sized text = length-append (number Eight (length text)) text ∙ ap (λ n. n + length text) (length-number Eight (length text))

length-all : (texts : List (List ℕ)) → length (sized_all texts) ≡ 8 * length texts + sum_by length texts
unfolding sized_all
length-all [] = refl
length-all (t ∷ ts) =
    let rest = length-all ts in
    omega (arith, length-append (sized t) (sized_all ts), length-sized t, rest, sum_by-cons length t ts)

pub length-numbers : (width : Width) (ns : List ℕ) → length (numbers width ns) ≡ size width * length ns
unfolding numbers
length-numbers width [] = omega arith
length-numbers width (n ∷ ns) = omega (arith, length-append (number width n) (numbers width ns), length-number width n, length-numbers width ns)

pub saved_length : (r : Ring) (heads len : ℕ) → heads ≡ min (min (length r.slots * 8) (2 ^ 64 - 1) + 56) (2 ^ 64 - 1)
    → len ≡ min (sum_by length r.slots + heads) (2 ^ 64 - 1) → len ≡ min (length (saved_ring r)) (2 ^ 64 - 1)
saved_length r heads len h is =
    omega (arith, length-append (numbers Eight (ring_numbers r)) (sized_all r.slots), length-numbers Eight (ring_numbers r), length-all r.slots, h, is)

-- ---- the bytes that a number was read of are those it is written as
pub written-again : (width : Width) (bytes : List ℕ) → length bytes ≡ size width → ((i : ℕ) → get_or bytes i 0 < 256)
    → (number width (little_number (size width) bytes) ≡ bytes) × Fits width (little_number (size width) bytes)
unfolding number
written-again Four bytes len small = (le_bytes_4 bytes _ len small (omega arith), little_from-lt 0 4 bytes small)
written-again Eight bytes len small = (le_bytes_8 bytes _ len small (omega arith), little_from-lt 0 8 bytes small)
