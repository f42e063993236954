-- The plans of the edits that put a text in, or take a given range out.
use Rattle.rl_base.specs.Event.{Delete, Event, InsertChar, InsertStr, Replace}
use Rattle.rl_base.specs.Text.{greatest_boundary}
use Rattle.rl_base.specs.declared.listeners.Direction.{Direction}
use Rattle.rl_base.specs.declared.listeners.Direction.TheVariants.{Forward}
use Rattle.rl_base.specs.declared.listeners.Refusal.{Refusal}
use Rattle.rl_line.specs.Line.{Line, between, stepped}
use Rattle.rl_line.specs.Plan.{Completion, Plan, Step, StepOutcome, Takes, followed_by, nothing, nothing_more, of_step, single}
use Rattle.rl_line.specs.Ranges.{text_in}
use Rattle.std.specs.List.{insert_slice, remove_range, repeat}
use Rattle.std.specs.Prelude.{Bool, List, None, Option, Result, Some, encode_utf8, if◌then◌else◌, length, min, nat_lt, not, slice_range, take, ℕ, ◌&&◌, ◌*◌, ◌+◌, ◌-◌, ◌==◌, ◌||◌, ◌≤◌}
use Rattle.std.specs.Str.{IsCharBoundary}
use Rattle.std.specs.declared.ops.Range.{Range}

-- a length that the line may not have: it may not grow, and the length is past its limit
abbrev pub too_long : Line → ℕ → Bool
too_long line n = not line.grow && nat_lt line.limit n

-- a character goes in at i, n times; for n = 1 it is told as a character, else as a text
abbrev pub insert_event : ℕ → ℕ → ℕ → Event
insert_event i c n = if n == 1 then InsertChar i c else InsertStr i (repeat n (encode_utf8 c))

-- the step by which c goes in n times at the cursor
abbrev pub insert_step : Line → ℕ → ℕ → Step
insert_step line c n = (insert_event line.cursor c n, line.cursor + length (encode_utf8 c) * n)

-- the step by which s goes in n times at the cursor
abbrev pub yank_step : Line → List ℕ → ℕ → Step
yank_step line s n = (InsertStr line.cursor (repeat n s), line.cursor + length s * n)

-- c goes in n times at the cursor, which goes past it, unless that is too long. The answer: was the cursor at the end?
abbrev pub insert_plan : Line → ℕ → ℕ → Plan (Option Bool)
insert_plan line c n =
    if too_long line (length line.text + length (encode_utf8 c) * n)
    then nothing line None
    else of_step (insert_step line c n) (Some (line.cursor == length line.text))

-- the step by which a range goes, with a cursor after it
abbrev pub delete_step : Line → Range ℕ → Direction → ℕ → Step
delete_step line r side cursor = (Delete r.start (text_in line r) side, cursor)

-- the step by which s replaces a range; the cursor is after s
abbrev pub replace_step : Line → Range ℕ → List ℕ → Step
replace_step line r s = (Replace r.start (text_in line r) s, r.start + length s)

-- s can go in at i, and the cursor stays at its place: both stand between two characters, the cursor also once s is in
abbrev pub CanInsertStr : Line → ℕ → List ℕ → Type 0
CanInsertStr line i s = IsCharBoundary line.text i × IsCharBoundary (insert_slice line.text i s) line.cursor

-- s goes in at i, and the cursor stays at its place. The answer: was i the end?
abbrev pub insert_str_plan : Line → ℕ → List ℕ → Plan Bool
insert_str_plan line i s = single (InsertStr i s) line.cursor (i == length line.text)

-- i..j goes, and the cursor is at i
abbrev pub delete_range_plan : Line → ℕ → ℕ → Plan (Unit {0})
delete_range_plan line i j = single (Delete i (slice_range line.text i j) Forward) i tt

-- s goes in n times at the cursor, which goes past it, unless s is empty or that is too long. The answer: was it at the end?
abbrev pub yank_plan : Line → List ℕ → ℕ → Plan (Option Bool)
yank_plan line s n =
    if (length s == 0) || too_long line (length line.text + length s * n)
    then nothing line None
    else of_step (yank_step line s n) (Some (line.cursor == length line.text))

-- z bytes can have been yanked last: as many stand before the cursor, and they begin between two characters
abbrev pub CanYankPop : Line → ℕ → Type 0
CanYankPop line z = (z ≤ line.cursor) × IsCharBoundary line.text (line.cursor - z)

-- the z bytes before the cursor go, and then s is yanked
abbrev pub yank_pop_plan : Line → ℕ → List ℕ → Plan (Option Bool)
yank_pop_plan line z s =
    let from = line.cursor - z in
    followed_by (Delete from (slice_range line.text from line.cursor) Forward) from
    (yank_plan (stepped line (remove_range line.text from line.cursor) from) s 1)

-- s replaces i..j, and the cursor is after it
abbrev pub replace_plan : Line → ℕ → ℕ → List ℕ → Plan (Unit {0})
replace_plan line i j s = single (Replace i (slice_range line.text i j) s) (i + length s) tt

-- the same of a range
abbrev pub replacement_plan : Line → Range ℕ → List ℕ → Plan (Unit {0})
replacement_plan line r s = replace_plan line r.start r.end s

-- a range goes, which leaves the cursor at p, and then s comes in at its place, which leaves it at q
abbrev pub exchange_plan : Line → Range ℕ → ℕ → List ℕ → ℕ → Plan (Unit {0})
exchange_plan line r p s q = followed_by (Delete r.start (text_in line r) Forward) p (single (InsertStr r.start s) q tt)

-- as much of s as the line may hold
abbrev pub cut_to_limit : Line → List ℕ → List ℕ
cut_to_limit line s = if too_long line (length s) then take (greatest_boundary s line.limit) s else s

-- as much of s as the line may hold replaces the text, and the cursor is at q, or at the end
abbrev pub update_plan : Line → List ℕ → ℕ → Plan (Unit {0})
update_plan line s q =
    let cut = cut_to_limit line s in
    exchange_plan line (between 0 (length line.text)) 0 cut (min q (length cut))

-- what the steps of an edit come to
module _ {L B : Type 0} (step : L → Event → L) (refused : L → Event → Refusal → L → Type 0) where
  -- a range goes, with a cursor after it; that takes no memory
  abbrev pub DeletesRange : Range ℕ → Direction → ℕ → Line → Line → L → L → Result B Refusal → Type 0
  DeletesRange r side cursor old new before now result = StepOutcome step refused nothing_more (delete_step old r side cursor) old new before now result

  -- a text is exchanged for a range, by `exchange_plan`
  abbrev pub Exchanges : Takes → Range ℕ → ℕ → List ℕ → ℕ → Line → Line → L → L → Result B Refusal → Type 0
  Exchanges takes r p s q old new before now result = Completion step refused takes (exchange_plan old r p s q) old new before now result
