-- The checksum of bytes: XXH64, of the xxHash family, with the seed 0. Its numbers are words of 64 bits.
use Rattle.std.specs.Prelude.{ℕ, zero, suc, ◌+◌, ◌-◌, ◌*◌, ◌/◌, ◌%◌, ◌^◌, List, length, drop, fold, bit_xor, nat_lt, if◌then◌else◌}
use Rattle.std.specs.Int.{w64, rotate_left}
use Rattle.byteorder.specs.Endian.{little_number}
use Rattle.rl_base.specs.declared.checksum.Lanes.{Lanes}

-- five primes
abbrev pub prime1 : ℕ
prime1 = 0x9e3779b185ebca87

abbrev pub prime2 : ℕ
prime2 = 0xc2b2ae3d27d4eb4f

abbrev pub prime3 : ℕ
prime3 = 0x165667b19e3779f9

abbrev pub prime4 : ℕ
prime4 = 0x85ebca77c2b2ae63

abbrev pub prime5 : ℕ
prime5 = 0x27d4eb2f165667c5

-- the sum and the product of two words, a word turned left by n bits, and one with its high bits, from the n-th on, over its low ones
unfoldable pub plus : ℕ → ℕ → ℕ
plus x y = (x + y) % 2 ^ 64

unfoldable pub times : ℕ → ℕ → ℕ
times x y = (x * y) % 2 ^ 64

unfoldable pub turned : ℕ → ℕ → ℕ
turned x n = rotate_left w64 x n

unfoldable pub folded : ℕ → ℕ → ℕ
folded x n = bit_xor x (x / 2 ^ n)

-- a lane after a word
unfoldable pub round : ℕ → ℕ → ℕ
round lane word = times (turned (plus lane (times word prime2)) 31) prime1

-- the four lanes as they begin, and after the stripe of 32 bytes that bytes begin with
abbrev pub lanes : Lanes
lanes = record { a = (prime1 + prime2) % 2 ^ 64; b = prime2; c = 0; d = 2 ^ 64 - prime1 }

unfoldable pub after_stripe : Lanes → List ℕ → Lanes
after_stripe ls bytes = record {
  a = round ls.a (little_number 8 bytes);
  b = round ls.b (little_number 8 (drop 8 bytes));
  c = round ls.c (little_number 8 (drop 16 bytes));
  d = round ls.d (little_number 8 (drop 24 bytes));
}

-- a word after a lane, and the lanes in one word
unfoldable pub after_lane : ℕ → ℕ → ℕ
after_lane sum lane = plus (times (bit_xor sum (round 0 lane)) prime1) prime4

unfoldable pub merged : Lanes → ℕ
merged ls =
    let sum = plus (plus (plus (turned ls.a 1) (turned ls.b 7)) (turned ls.c 12)) (turned ls.d 18) in
    after_lane (after_lane (after_lane (after_lane sum ls.a) ls.b) ls.c) ls.d

-- a word after 8 bytes, after 4, and after one
unfoldable pub after_eight : ℕ → List ℕ → ℕ
after_eight sum bytes = plus (times (turned (bit_xor sum (round 0 (little_number 8 bytes))) 27) prime1) prime4

unfoldable pub after_four : ℕ → List ℕ → ℕ
after_four sum bytes = plus (times (turned (bit_xor sum (times (little_number 4 bytes) prime1)) 23) prime2) prime3

unfoldable pub after_byte : ℕ → ℕ → ℕ
after_byte sum byte = times (turned (bit_xor sum (times byte prime5)) 11) prime1

-- what the first n pieces of some size make of a value, one after another; all pieces of bytes; and the bytes after them
unfoldable pub pieces : {A : Type 0} → (A → List ℕ → A) → ℕ → ℕ → A → List ℕ → A
pieces step size zero value bytes = value
pieces step size (suc n) value bytes = pieces step size n (step value bytes) (drop size bytes)

unfoldable pub all_pieces : {A : Type 0} → (A → List ℕ → A) → ℕ → A → List ℕ → A
all_pieces step size value bytes = pieces step size (length bytes / size) value bytes

unfoldable pub past_pieces : ℕ → List ℕ → List ℕ
past_pieces size bytes = drop (length bytes / size * size) bytes

-- the stripes in one word
unfoldable pub striped : List ℕ → ℕ
striped bytes = if nat_lt (length bytes) 32 then prime5 else merged (all_pieces after_stripe 32 lanes bytes)

-- a word after the bytes that are left: by 8, then by 4, then each
unfoldable pub after_rest : ℕ → List ℕ → ℕ
after_rest sum bytes =
    let rest = past_pieces 8 bytes in
    fold after_byte (all_pieces after_four 4 (all_pieces after_eight 8 sum bytes) rest) (past_pieces 4 rest)

-- each bit of a word spread over all
unfoldable pub avalanche : ℕ → ℕ
avalanche sum = folded (times (folded (times (folded sum 33) prime2) 29) prime3) 32

-- the checksum
unfoldable pub xxh64 : List ℕ → ℕ
xxh64 bytes = avalanche (after_rest (plus (striped bytes) (length bytes)) (past_pieces 32 bytes))
