-- The places of a character in a text, and where searches for it go; and where a search for a text finds it.
use Rattle.std.specs.Prelude.{◌≡◌, ℕ, ◌+◌, ◌==◌, ◌<◌, ◌≤◌, Bool, ◌&&◌, nat_le, nat_lt, List, [], ◌∷◌, length, map, filter, take, drop, reverse, slice_range, Option, None, unwrap_or, IsTrue}
use Rattle.std.specs.Char.{len_utf8}
use Rattle.std.specs.List.{find, last_or, range_with_len}
use Rattle.std.specs.Option.{option_map, option_and_then}
use Rattle.std.specs.Str.{chars}
use Rattle.std.specs.declared.ops.Range.{Range}
use Rattle.rl_base.specs.Clusters.{next_pos}
use Rattle.rl_base.specs.Text.{stands_at}
use Rattle.rl_base.specs.declared.listeners.Direction.{Direction}
use Rattle.rl_base.specs.declared.motion.CharSearch.{CharSearch}
use Rattle.rl_base.specs.declared.motion.CharSearch.TheVariants.{Forward, ForwardBefore, Backward, BackwardAfter}

-- characters with their places, where the first stands at `from`
abbrev pub char_places : ℕ → List ℕ → List (ℕ × ℕ)
char_places from [] = []
char_places from (c ∷ cs) = (from, c) ∷ char_places (from + len_utf8 c) cs

-- the places of one character among those
abbrev pub places_of : ℕ → List (ℕ × ℕ) → List ℕ
places_of c placed = map (λ x. x.0) (filter (λ x. x.1 == c) placed)

-- the places of a character in a text that stands at `from`
abbrev pub hits : ℕ → ℕ → List ℕ → List ℕ
hits c from text = places_of c (char_places from (chars text))

-- the n-th, counted from 1, or the last if there are fewer; none for n = 0 and for an empty list
abbrev pub nth_or_last : ℕ → List ℕ → Option ℕ
nth_or_last n places = last_or None (take n places)

-- back: the hits before pos, from there back
abbrev pub hit_back : List ℕ → ℕ → ℕ → ℕ → Option ℕ
hit_back text pos c n = nth_or_last n (reverse (hits c 0 (take pos text)))

-- ahead: the hits past the cluster at pos
abbrev pub hit_ahead : List ℕ → ℕ → ℕ → ℕ → Option ℕ
hit_ahead text pos c n = option_and_then (λ start. nth_or_last n (hits c start (drop start text))) (next_pos text pos 1)

-- the hit that a search chooses
abbrev pub chosen_hit : List ℕ → ℕ → CharSearch → ℕ → Option ℕ
chosen_hit text pos (Backward c) n = hit_back text pos c n
chosen_hit text pos (BackwardAfter c) n = hit_back text pos c n
chosen_hit text pos (Forward c) n = hit_ahead text pos c n
chosen_hit text pos (ForwardBefore c) n = hit_ahead text pos c n

-- the character that a search looks for
abbrev pub sought : CharSearch → ℕ
sought (Backward c) = c
sought (BackwardAfter c) = c
sought (Forward c) = c
sought (ForwardBefore c) = c

-- the whole hit lies on the side of pos that the search goes to
abbrev pub HitLies : CharSearch → ℕ → ℕ → Type 0
HitLies (Backward c) pos hit = hit + len_utf8 c ≤ pos
HitLies (BackwardAfter c) pos hit = hit + len_utf8 c ≤ pos
HitLies (Forward _) pos hit = pos < hit
HitLies (ForwardBefore _) pos hit = pos < hit

-- the place of a text's last character, or 0
abbrev pub place_of_last : List ℕ → ℕ
place_of_last text = unwrap_or (last_or None (map (λ x. x.0) (char_places 0 (chars text)))) 0

-- where a motion to a hit goes
abbrev pub place_by : CharSearch → List ℕ → ℕ → ℕ
place_by (Backward _) text hit = hit
place_by (BackwardAfter c) text hit = hit + len_utf8 c
place_by (Forward _) text hit = hit
place_by (ForwardBefore _) text hit = place_of_last (take hit text)

-- where the motion of a search goes
abbrev pub find_place : List ℕ → ℕ → CharSearch → ℕ → Option ℕ
find_place text pos cs n = option_map (place_by cs text) (chosen_hit text pos cs n)

-- the place lies on the side of pos that the search goes to
abbrev pub IsOnSide : CharSearch → ℕ → ℕ → Type 0
IsOnSide (Backward _) pos place = place ≤ pos
IsOnSide (BackwardAfter _) pos place = place ≤ pos
IsOnSide (Forward _) pos place = pos ≤ place
IsOnSide (ForwardBefore _) pos place = pos ≤ place

-- ---- a text in a text
-- an occurrence of a text: an offset at which it stands. An empty text has none
abbrev pub occurs : List ℕ → List ℕ → ℕ → Bool
occurs text sought at = nat_lt 0 (length sought) && stands_at text at sought

-- the offset of the occurrence that a search finds: ahead the first that begins at `from` or after it, back the last that ends at
-- `from` or before it
abbrev pub occurrence : List ℕ → ℕ → List ℕ → Direction → Option ℕ
occurrence text from sought Direction.Forward = find (λ at. nat_le from at && occurs text sought at) (range_with_len 0 (length text))
occurrence text from sought Direction.Backward =
    find (λ at. nat_le (at + length sought) from && occurs text sought at) (reverse (range_with_len 0 (length text)))

-- the range of a text that stands at an offset
abbrev pub range_at : List ℕ → ℕ → Range ℕ
range_at sought at = record { start = at; end = at + length sought }

-- the range that a search finds
abbrev pub find_text : List ℕ → ℕ → List ℕ → Direction → Option (Range ℕ)
find_text text from sought direction = option_map (range_at sought) (occurrence text from sought direction)

-- a range lies on the side of `from` that a search goes to
abbrev pub LiesOn : Direction → ℕ → Range ℕ → Type 0
LiesOn Direction.Forward from r = from ≤ r.start
LiesOn Direction.Backward from r = r.end ≤ from

-- a search comes to the offset `at` before it comes to `found`
abbrev pub ComesBefore : Direction → ℕ → ℕ → Type 0
ComesBefore Direction.Forward at found = at < found
ComesBefore Direction.Backward at found = found < at

-- the range has the text, lies on the side that the search goes to, and no other occurrence there lies nearer
pub record IsNearest (text : List ℕ) (from : ℕ) (sought : List ℕ) (direction : Direction) (r : Range ℕ) : Type 0 where
  pub is_occurrence : IsTrue (occurs text sought r.start)
  pub is_text : slice_range text r.start r.end ≡ sought
  pub side : LiesOn direction from r
  pub nearest : (at : ℕ) → IsTrue (occurs text sought at) → LiesOn direction from (range_at sought at) → ¬ (ComesBefore direction at r.start)

-- no occurrence lies on that side
abbrev pub HasNone : List ℕ → ℕ → List ℕ → Direction → Type 0
HasNone text from sought direction = (at : ℕ) → IsTrue (occurs text sought at) → ¬ (LiesOn direction from (range_at sought at))
