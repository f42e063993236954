-- What an event that fits makes of a text.
use Rattle.rl_base.proofs.Common.{◌≡◌, ℕ, ◌+◌, ◌-◌, ◌≤◌, Bool, true, false, List, length, slice_range, Some, None, refl, ap, arith, and_parts, length-between, IsUtf8-encode, IsUtf8-from_is_utf8, is_utf8-from_IsUtf8, IsScalar, encode_utf8, cond, IsSome, ◌&&◌, insert_slice, remove_range, replace_range, IsCharBoundary, IsUtf8, is_utf8, Direction, InsertChar, InsertStr, Delete, Replace, fits_at, stands_at}
use Rattle.rl_base.specs.Event.{apply}
use Rattle.rl_base.proofs.Texts.TextLemmas.{is_boundary-true, FitsAt, StandsAt, fits_at-true, fits_at-means, stands_at-part, stands_at-means}

pub apply-InsertStr : (text : List ℕ) (i : ℕ) (s : List ℕ) → IsUtf8 s → IsCharBoundary text i → apply (InsertStr i s) text ≡ Some (insert_slice text i s)
unfolding apply
apply-InsertStr text i s u h = rw (fits_at-true text i s u h) refl

pub apply-InsertChar : (text : List ℕ) (i c : ℕ) → IsScalar c → IsCharBoundary text i → apply (InsertChar i c) text ≡ Some (insert_slice text i (encode_utf8 c))
unfolding apply
apply-InsertChar text i c u h = rw (fits_at-true text i (encode_utf8 c) (IsUtf8-encode c u) h) refl

pub apply-Delete : (text : List ℕ) (i j : ℕ) (side : Direction) → IsUtf8 text → i ≤ j → IsCharBoundary text i → IsCharBoundary text j
    → apply (Delete i (slice_range text i j) side) text ≡ Some (remove_range text i j)
unfolding apply
apply-Delete text i j side u le start end =
    let width : length (slice_range text i j) ≡ j - i = length-between text i j end.0 in
    let to : i + length (slice_range text i j) ≡ j = omega arith in
    rw (stands_at-part text i j u le start end) (ap (λ k. Some (remove_range text i k)) to)

pub apply-Replace : (text : List ℕ) (i j : ℕ) (s : List ℕ) → IsUtf8 text → IsUtf8 s → i ≤ j → IsCharBoundary text i → IsCharBoundary text j
    → apply (Replace i (slice_range text i j) s) text ≡ Some (replace_range text i j s)
unfolding apply
apply-Replace text i j s u v le start end =
    let width : length (slice_range text i j) ≡ j - i = length-between text i j end.0 in
    let to : i + length (slice_range text i j) ≡ j = omega arith in
    rw (stands_at-part text i j u le start end, is_utf8-from_IsUtf8 s v) (ap (λ k. Some (replace_range text i k s)) to)

-- what an event that fits needs, and what it makes
pub record Deletes (text : List ℕ) (i : ℕ) (s : List ℕ) (side : Direction) : Type 0 where
  pub stands : StandsAt text i s
  pub makes : apply (Delete i s side) text ≡ Some (remove_range text i (i + length s))

pub record Inserts (text : List ℕ) (i : ℕ) (s : List ℕ) : Type 0 where
  pub fits : FitsAt text i s
  pub makes : apply (InsertStr i s) text ≡ Some (insert_slice text i s)

pub record Replaces (text : List ℕ) (i : ℕ) (s t : List ℕ) : Type 0 where
  pub stands : StandsAt text i s
  pub utf8 : IsUtf8 t
  pub makes : apply (Replace i s t) text ≡ Some (replace_range text i (i + length s) t)

some_if : (b : Bool) (x : List ℕ) → IsSome (cond b (Some x) None) → b ≡ true
some_if true x h = refl
some_if false x h = cc

pub Deletes-from_IsSome : (text : List ℕ) (i : ℕ) (s : List ℕ) (side : Direction) → IsSome (apply (Delete i s side) text) → Deletes text i s side
unfolding apply
Deletes-from_IsSome text i s side h =
    let ok = some_if (stands_at text i s) _ h in record { stands = stands_at-means text i s ok; makes = rw ok refl }

pub Inserts-from_IsSome : (text : List ℕ) (i : ℕ) (s : List ℕ) → IsSome (apply (InsertStr i s) text) → Inserts text i s
unfolding apply
Inserts-from_IsSome text i s h = let ok = some_if (fits_at text i s) _ h in record { fits = fits_at-means text i s ok; makes = rw ok refl }

pub Replaces-from_IsSome : (text : List ℕ) (i : ℕ) (s t : List ℕ) → IsSome (apply (Replace i s t) text) → Replaces text i s t
unfolding apply
Replaces-from_IsSome text i s t h =
    let ok = some_if (stands_at text i s && is_utf8 t) _ h in
    let parts = and_parts (stands_at text i s) (is_utf8 t) ok in
    record { stands = stands_at-means text i s parts.0; utf8 = IsUtf8-from_is_utf8 t parts.1; makes = rw ok refl }

pub ruleset fitting = (apply-InsertStr, apply-InsertChar, apply-Delete, apply-Replace, is_boundary-true)
