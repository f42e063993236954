-- Pieces of bytes, one after another, and known checksums.
use Rattle.rl_base.proofs.Common.{◌≡◌, ℕ, suc, ◌-◌, ◌<◌, ◌≤◌, List, length, drop, length-drop, drop-drop, refl, ap, arith, ◌∙◌}
use Rattle.std.proofs.Math.Nat.{div-eq-sub-div, div-eq_of_lt, suc-mul, zero-mul}
use Rattle.std.specs.Prelude.{◌/◌}
use Rattle.std.specs.Prelude.{codes}
use Rattle.rl_base.specs.Checksum.{after_byte, after_eight, after_four, after_lane, after_rest, after_stripe, all_pieces, avalanche, folded, merged, past_pieces, pieces, plus, round, striped, times, turned, xxh64}

-- how many pieces are left after one
one_less : (size n : ℕ) → 0 < size → size ≤ n → n / size ≡ suc ((n - size) / size)
one_less size n some fits = div-eq-sub-div some fits ∙ omega arith

-- the first piece is taken in, and the others after it
pub pieces-next : {A : Type 0} (step : A → List ℕ → A) (size : ℕ) (value : A) (bytes : List ℕ) → 0 < size → size ≤ length bytes
    → all_pieces step size (step value bytes) (drop size bytes) ≡ all_pieces step size value bytes
unfolding all_pieces pieces
pieces-next step size value bytes some fits =
    rw (one_less size (length bytes) some fits, length-drop size bytes) refl

pub past-next : (size : ℕ) (bytes : List ℕ) → 0 < size → size ≤ length bytes → past_pieces size (drop size bytes) ≡ past_pieces size bytes
unfolding past_pieces
past-next size bytes some fits =
    let more = one_less size (length bytes) some fits in
    rw (length-drop size bytes, drop-drop, more) (ap (λ n. drop n bytes) (omega (arith, suc-mul ((length bytes - size) / size) size)))

-- what is shorter than a piece has none
pub pieces-none : {A : Type 0} (step : A → List ℕ → A) (size : ℕ) (value : A) (bytes : List ℕ) → length bytes < size
    → all_pieces step size value bytes ≡ value
unfolding all_pieces pieces
pieces-none step size value bytes short = rw (div-eq_of_lt short) refl

pub past-none : (size : ℕ) (bytes : List ℕ) → length bytes < size → past_pieces size bytes ≡ bytes
unfolding past_pieces
past-none size bytes short = rw (div-eq_of_lt short, zero-mul size) refl

pub ruleset piecewise = (pieces-next, past-next, pieces-none, past-none)

-- what Debian's `xxhsum -H64` prints for these texts
pub checksum_of_abc : xxh64 (codes "abc") ≡ 0x44bc2cf5ad770999
unfolding xxh64 striped past_pieces pieces all_pieces after_rest after_byte avalanche folded plus times turned
checksum_of_abc = refl

-- a stripe, and then pieces of each size
pub checksum_of_62_bytes : xxh64 (codes "ABCDEFGHIJKLMNOPQRSTUVWXYZabcdefghijklmnopqrstuvwxyz0123456789") ≡ 0xaaa46907d3047814
unfolding xxh64 striped merged after_lane after_stripe round past_pieces pieces all_pieces after_rest after_eight after_four after_byte avalanche folded plus times turned
checksum_of_62_bytes = refl
