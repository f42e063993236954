-- A ring of killed texts, and what each of its steps makes of it.
use Rattle.std.specs.Prelude.{◌≡◌, ℕ, ◌+◌, ◌-◌, ◌^◌, ◌==◌, nat_le, nat_lt, zero, suc, Bool, true, false, List, [], ◌∷◌, ◌++◌, max, ◌<◌, ◌≤◌, ◌⊎◌, length, slice_set, slice_get, Option, Some, None, option_map, if◌then◌else◌, take, drop, reverse, ⊤}
use Rattle.rl_base.specs.declared.kill_ring.Action.{Action}
use Rattle.rl_base.specs.declared.kill_ring.Action.TheVariants.{Kill, Yank, Other}
use Rattle.rl_base.specs.declared.kill_ring.Mode.{Mode}
use Rattle.rl_base.specs.declared.kill_ring.Mode.TheVariants.{Append, Prepend}
use Rattle.rl_base.specs.declared.kill_ring.NewKill.{NewKill}
use Rattle.rl_base.specs.declared.kill_ring.NewKill.TheVariants.{AfterCurrent, AfterNewest}
use Rattle.rl_base.specs.declared.listeners.Direction.{Direction}
use Rattle.rl_base.specs.declared.listeners.Direction.TheVariants.{Forward, Backward}
use Rattle.rl_base.specs.declared.listeners.Refusal.{Refusal}
use Rattle.rl_base.specs.declared.listeners.Refusal.TheVariants.{NoMemory}
use Rattle.rl_base.specs.Event.{Event, InsertChar, InsertStr, Delete, Replace, Start, Stop, Cursors}

-- the most slots there may be, the rule of new kills, the slots, the indices of the current one and of the one that was begun
-- last, what was done last, and whether a kill is on
pub record Ring : Type 0 where
  pub size : ℕ
  pub rule : NewKill
  pub slots : List (List ℕ)
  pub index : ℕ
  pub newest : ℕ
  pub last : Action
  pub killing : Bool

-- the current slot, by its index, is that of what was done last: after a kill it is there, if any may be, and after a yank it has
-- as many bytes as were yanked
abbrev pub FitsLast : Action → ℕ → ℕ → List (List ℕ) → Type 0
FitsLast Kill size index slots = 0 < size → index < length slots
FitsLast (Yank bytes) size index slots = option_map length (slice_get slots index) ≡ Some bytes
FitsLast Other size index slots = ⊤

-- no more slots than the size, and both indices are those of slots, or 0 if there is none
pub record IsRing (r : Ring) : Type 0 where
  pub within : length r.slots ≤ r.size
  pub at_slot : r.index < max 1 (length r.slots)
  pub newest_at_slot : r.newest < max 1 (length r.slots)
  pub last_fits : FitsLast r.last r.size r.index r.slots

-- a ring without slots, whose new kills go after the current text
abbrev pub new_ring : ℕ → Ring
new_ring size = record { size = size; rule = AfterCurrent; slots = []; index = 0; newest = 0; last = Other; killing = false }

-- the ring with a rule of new kills
abbrev pub ruled : NewKill → Ring → Ring
ruled rule r = record r { rule = rule }

-- a text joined to an old one, at its end or at its front
abbrev pub joined : Mode → List ℕ → List ℕ → List ℕ
joined Append old text = old ++ text
joined Prepend old text = text ++ old

-- a text joined to the slot at i
abbrev pub join_at : ℕ → Mode → List ℕ → List (List ℕ) → List (List ℕ)
join_at i mode text [] = []
join_at zero mode text (s ∷ ss) = joined mode s text ∷ ss
join_at (suc i) mode text (s ∷ ss) = s ∷ join_at i mode text ss

-- a text put over the slot at i, or after all slots
abbrev pub put_at : ℕ → List ℕ → List (List ℕ) → List (List ℕ)
put_at i text slots = if i == length slots then slots ++ text ∷ [] else slice_set slots i text

-- to put a text over the slot at i, or after all slots, takes memory
abbrev pub PutTakesMemory : {A : Type 0} → ℕ → List ℕ → List A → Type 0
PutTakesMemory i text slots = (0 < length text) ⊎ (i ≡ length slots)

-- the index one up, if there is a slot
abbrev pub raised : ℕ → List (List ℕ) → ℕ
raised index [] = index
raised index (s ∷ ss) = index + 1

-- the index right after another, and from the last place of the ring back to 0
abbrev pub next_index : ℕ → ℕ → List (List ℕ) → ℕ
next_index size index slots = if index + 1 == size then 0 else raised index slots

-- after which slot a new one goes: the current one, or the newest
abbrev pub goes_after : NewKill → ℕ → ℕ → ℕ
goes_after AfterCurrent index newest = index
goes_after AfterNewest index newest = newest

-- where the next new slot goes
abbrev pub new_index : Ring → ℕ
new_index r = next_index r.size (goes_after r.rule r.index r.newest) r.slots

-- a text joined to the current slot
abbrev pub in_current : Mode → List ℕ → Ring → Ring
in_current mode text r = record r { slots = join_at r.index mode text r.slots; last = Kill }

-- a text in a slot of its own, which becomes the current one and the newest
abbrev pub in_new_slot : List ℕ → Ring → Ring
in_new_slot text r =
    record r { slots = put_at (new_index r) text r.slots; index = new_index r; newest = new_index r; last = Kill }

-- a kill, by the ring's size and what was done last
abbrev pub killed_as : ℕ → Action → List ℕ → Mode → Ring → Ring
killed_as zero _ text mode r = record r { last = Kill }
killed_as (suc _) Kill text mode r = in_current mode text r
killed_as (suc _) (Yank _) text mode r = in_new_slot text r
killed_as (suc _) Other text mode r = in_new_slot text r

-- the ring after a kill: one right after another kill joins its text, any other begins a slot
abbrev pub killed : List ℕ → Mode → Ring → Ring
killed text mode r = killed_as r.size r.last text mode r

-- a kill makes the ring larger: its size is not 0, and the text isn't empty or a slot is added
abbrev pub Enlarges : List ℕ → Mode → Ring → Type 0
Enlarges text mode r = (0 < r.size) × ((0 < length text) ⊎ (length r.slots < length (killed text mode r).slots))

-- the ring after something else was done
abbrev pub reset : Ring → Ring
reset r = record r { last = Other }

-- the ring without its texts
abbrev pub cleared : Ring → Ring
cleared r = record r { slots = []; index = 0; newest = 0; last = Other }

-- what a yank answers: the current slot
abbrev pub yank : Ring → Option (List ℕ)
yank r = slice_get r.slots r.index

-- the ring that lent a slot, whose length it keeps
abbrev pub lent : Option (List ℕ) → Ring → Ring
lent None r = r
lent (Some text) r = record r { last = Yank (length text) }

-- the ring after a yank
abbrev pub yanked : Ring → Ring
yanked r = lent (yank r) r

-- the length that was kept, if a yank was done last
abbrev pub size_of : Action → Option ℕ
size_of Kill = None
size_of (Yank size) = Some size
size_of Other = None

-- what yank_size answers
abbrev pub yank_size : Ring → Option ℕ
yank_size r = size_of r.last

-- the index one down, from 0 to the last slot
abbrev pub index_before : ℕ → List (List ℕ) → ℕ
index_before zero slots = length slots - 1
index_before (suc i) slots = i

-- the ring with the slot before as its current one
abbrev pub turned : Ring → Ring
turned r = record r { index = index_before r.index r.slots }

-- what a yank_pop answers, by the length that was kept: that length, and the slot before
abbrev pub popped : Option ℕ → Ring → Option (ℕ × List ℕ)
popped None r = None
popped (Some size) r = option_map (λ text. (size, text)) (yank (turned r))

-- what a yank_pop answers
abbrev pub yank_pop : Ring → Option (ℕ × List ℕ)
yank_pop r = popped (yank_size r) r

-- the ring after a yank_pop, by the length that was kept
abbrev pub popped_ring : Option ℕ → Ring → Ring
popped_ring None r = r
popped_ring (Some size) r = yanked (turned r)

-- the ring after a yank_pop
abbrev pub yank_popped : Ring → Ring
yank_popped r = popped_ring (yank_size r) r

-- the slots from the one at i backwards, round the ring, to the one after it
abbrev pub back_from : ℕ → List (List ℕ) → List (List ℕ)
back_from i slots = reverse (take (i + 1) slots) ++ reverse (drop (i + 1) slots)

-- the slots of a ring, from the newest back
abbrev pub newest_first : Ring → List (List ℕ)
newest_first r = back_from r.newest r.slots

-- the first texts, as many as have no more bytes together than that
abbrev pub fitting : ℕ → List (List ℕ) → List (List ℕ)
fitting room [] = []
fitting room (t ∷ ts) = if nat_le (length t) room then t ∷ fitting (room - length t) ts else []

-- how many slots the one at an index stands before the newest, round the ring
abbrev pub behind : ℕ → ℕ → ℕ → ℕ
behind newest index slots = if nat_le index newest then newest - index else newest + (slots - index)

-- the ring with these texts, the newest first. The one that stands so many before the newest is current; if there is none, the
-- newest is, and nothing was done last
abbrev pub left_with : List (List ℕ) → ℕ → Ring → Ring
left_with texts back r =
    if nat_lt back (length texts) then record r { slots = reverse texts; index = length texts - 1 - back; newest = length texts - 1 }
    else record r { slots = reverse texts; index = length texts - 1; newest = length texts - 1; last = Other }

-- the ring with its newest texts alone, so many of them or all
abbrev pub with_newest : ℕ → Ring → Ring
with_newest kept r = left_with (take kept (newest_first r)) (behind r.newest r.index (length r.slots)) r

-- the ring with room for so many texts: the oldest beyond that are gone
abbrev pub resized : ℕ → Ring → Ring
resized size r = if size == r.size then r else record (with_newest size r) { size = size }

-- the ring once its oldest texts went that do not fit
abbrev pub cut_to : ℕ → Ring → Ring
cut_to bytes r =
    if length (fitting bytes (newest_first r)) == length r.slots then r else with_newest (length (fitting bytes (newest_first r))) r

-- the same by a bound, of which the greatest `usize` is none
abbrev pub within_bytes : ℕ → Ring → Ring
within_bytes bytes r = if nat_le (2 ^ 64 - 1) bytes then r else cut_to bytes r

-- the text that stands so many before the current one, round the ring, if there are as many
abbrev pub text_back : ℕ → Ring → Option (List ℕ)
text_back back r = slice_get (back_from r.index r.slots) back

-- the end at which a text from a side of the cursor is joined
abbrev pub side_mode : Direction → Mode
side_mode Forward = Append
side_mode Backward = Prepend

-- the ring after a deletion, which is a kill if a kill is on
abbrev pub after_deletion : Bool → List ℕ → Direction → Ring → Ring
after_deletion false text side r = r
after_deletion true text side r = killed text (side_mode side) r

-- the ring after an event
abbrev pub ring_step : Ring → Event → Ring
ring_step r (Delete _ text side) = after_deletion r.killing text side r
ring_step r Start = record r { killing = true }
ring_step r Stop = record r { killing = false }
ring_step r (InsertChar _ _) = r
ring_step r (InsertStr _ _) = r
ring_step r (Replace _ _ _) = r
ring_step r (Cursors _ _) = r

-- the ring needs room to keep an event's text: a deletion while a kill is on, which makes the ring larger
abbrev pub KeepsText : Ring → Event → Type 0
KeepsText r (Delete _ text side) = (r.killing ≡ true) × Enlarges text (side_mode side) r
KeepsText r (InsertChar _ _) = ⊥
KeepsText r (InsertStr _ _) = ⊥
KeepsText r (Replace _ _ _) = ⊥
KeepsText r Start = ⊥
KeepsText r Stop = ⊥
KeepsText r (Cursors _ _) = ⊥

-- a refusal: memory is out, for an event whose text needs room, and the ring is as before
abbrev pub ring_refused : Ring → Event → Refusal → Ring → Type 0
ring_refused old event why now = (why ≡ NoMemory) × (now ≡ old) × KeepsText old event
