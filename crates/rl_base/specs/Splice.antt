-- All that changed in a text, told as one splice.
use Rattle.std.specs.Prelude.{◌≡◌, ℕ, ◌+◌, ◌-◌, ◌^◌, ◌<◌, ◌≤◌, min, max, List, length, take, drop, encode_utf8, nat_le, nat_lt, ◌⊎◌, Option, Some, None, if◌then◌else◌}
use Rattle.std.specs.Str.{IsCharBoundary, IsUtf8}
use Rattle.rl_base.specs.declared.splice.Side.{Side}
use Rattle.rl_base.specs.declared.splice.Side.TheVariants.{Before, After}
use Rattle.rl_base.specs.declared.splice.Splice.{Splice}
use Rattle.rl_base.specs.Event.{Event, InsertChar, InsertStr, Delete, Replace, Start, Stop, Cursors}

-- nothing changed: with any change, this is the splice of that change
abbrev pub untouched : Splice
untouched = record { from = 2 ^ 64 - 1; old_end = 0; new_end = 0 }

-- a place or a length, which no text has past the greatest usize
abbrev pub capped : ℕ → ℕ
capped n = min n (2 ^ 64 - 1)

-- a splice, and then a change by which `gone` bytes at a place give way to `come` bytes, as one splice
abbrev pub folded : Splice → ℕ → ℕ → ℕ → Splice
folded s place gone come =
    let end = max s.new_end (capped (place + gone)) in
    record { from = min s.from place; old_end = capped (s.old_end + (end - s.new_end)); new_end = capped ((end - gone) + come) }

-- a splice, and then an event, as one splice
abbrev pub spliced : Splice → Event → Splice
spliced s (InsertChar i c) = folded s i 0 (length (encode_utf8 c))
spliced s (InsertStr i t) = folded s i 0 (length t)
spliced s (Delete i t _) = folded s i (length t) 0
spliced s (Replace i t u) = folded s i (length t) (length u)
spliced s Start = s
spliced s Stop = s
spliced s (Cursors _ _) = s

-- what is told of a splice: none that takes nothing out and puts nothing in
abbrev pub told : Splice → Option Splice
told s = if nat_lt s.from (max s.old_end s.new_end) then Some s else None

-- two texts are the same before a splice and after it, and its ends stand between characters of both
pub record Splices (s : Splice) (old new : List ℕ) : Type 0 where
  pub old_order : s.from ≤ s.old_end
  pub new_order : s.from ≤ s.new_end
  pub old_from : IsCharBoundary old s.from
  pub new_from : IsCharBoundary new s.from
  pub old_to : IsCharBoundary old s.old_end
  pub new_to : IsCharBoundary new s.new_end
  pub before : take s.from old ≡ take s.from new
  pub after : drop s.old_end old ≡ drop s.new_end new

-- a splice takes in all in which a text differs from an older one
pub record Covers (s : Splice) (old new : List ℕ) : Type 0 where
  pub utf8 : IsUtf8 old
  pub fits : length old < 2 ^ 64
  pub differ : ((s ≡ untouched) × (new ≡ old)) ⊎ Splices s old new

-- where a place of the old text stands in the new one, by the side on which it stays
abbrev pub moved : Splice → Side → ℕ → ℕ
moved s Before place = if nat_le place s.from then place else if nat_lt place s.old_end then s.from else s.new_end + (place - s.old_end)
moved s After place = if nat_lt place s.old_end then (if nat_le place s.from then place else s.new_end) else s.new_end + (place - s.old_end)

-- a place is neither inside of what went, nor at the end of it where its side is what went
abbrev pub Outlasts : Splice → Side → ℕ → Type 0
Outlasts s Before place = (place ≤ s.from) ⊎ (s.old_end < place)
Outlasts s After place = (place < s.from) ⊎ (s.old_end ≤ place)

-- the splice that leads back
abbrev pub inverse : Splice → Splice
inverse s = record { from = s.from; old_end = s.new_end; new_end = s.old_end }
