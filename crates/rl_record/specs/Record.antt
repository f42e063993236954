-- The record of the changes of a line.
use Rattle.rl_base.specs.Classes.{is_alphanumeric, is_word_cluster}
use Rattle.rl_base.specs.Event.{Cursors, Delete, Event, InsertChar, InsertStr, Replace, Start, Stop}
use Rattle.rl_base.specs.declared.listeners.Refusal.{Refusal}
use Rattle.rl_base.specs.declared.listeners.Refusal.TheVariants.{NoMemory}
use Rattle.rl_line.specs.Entry.{Changed, Deletion, End, Entry, Insertion, Replacement, Swap, change_count, changes_of, cursors_of, flipped, inverse, past, unwind, with_cursors}
use Rattle.rl_record.specs.declared.joining.Freshness.{Freshness}
use Rattle.std.specs.Option.{option_map_or}
use Rattle.std.specs.Prelude.{Bool, List, None, Option, Some, [], encode_utf8, false, if◌then◌else◌, length, map, nat_le, not, reverse, take, true, ℕ, ◌&&◌, ◌++◌, ◌+◌, ◌-◌, ◌<◌, ◌==◌, ◌∷◌, ◌≡◌, ◌≤◌, ◌⊎◌}
use Rattle.std.specs.Str.{bytes_eq}
use Rattle.rl_record.specs.declared.joining.Freshness.TheVariants as is

-- what was recorded, the oldest first; what was undone and waits to be redone, in the order in which it was made; and whether
-- the cursors of the last recorded change may still be told, and the next change may join it; and how many changes were recorded
-- when the text was saved, as long as these are there
pub record Record : Type 0 where
  pub recorded : List Entry
  pub pending : List Entry
  pub fresh : Freshness
  pub saved : Option ℕ

-- an empty record
abbrev pub no_changes : Record
no_changes = record { recorded = []; pending = []; fresh = is.Stale; saved = None }

-- a save point, if no more than `len` changes stand before it
abbrev pub kept_point : ℕ → Option ℕ → Option ℕ
kept_point len None = None
kept_point len (Some n) = if nat_le n len then Some n else None

-- a save point once the first k changes are gone
abbrev pub point_past : ℕ → Option ℕ → Option ℕ
point_past k None = None
point_past k (Some n) = if nat_le k n then Some (n - k) else None

-- whether so many changes stand before a save point
abbrev pub is_at : ℕ → Option ℕ → Bool
is_at len None = false
is_at len (Some n) = n == len

-- a record that came to so many changes is parted at its save point, so that no change joins what was saved
abbrev pub freshness_at : ℕ → Option ℕ → Freshness
freshness_at len point = if is_at len point then is.Parted else is.Stale

-- whether a record stands where its text was saved: as many changes are recorded as then. Marks of groups do not count
abbrev pub is_saved : Record → Bool
is_saved r = is_at (change_count r.recorded) r.saved

-- a record that came to these entries
abbrev pub arrived : List Entry → List Entry → Option ℕ → Record
arrived es pending point = record { recorded = es; pending = pending; fresh = freshness_at (change_count es) point; saved = point }

-- a change that has no cursors yet
abbrev pub untold : ℕ → List ℕ → List ℕ → Swap
untold i old new = record { place = i; old = old; new = new; cursors = None }

-- the entries that an event adds: nothing for an empty text, unless it replaces one
unfoldable pub entries_of : Event → List Entry
entries_of (InsertChar i c) = Changed Insertion (untold i [] (encode_utf8 c)) ∷ []
entries_of (InsertStr i s) = if length s == 0 then [] else Changed Insertion (untold i [] s) ∷ []
entries_of (Delete i s _) = if length s == 0 then [] else Changed Deletion (untold i s []) ∷ []
entries_of (Replace i s t) = Changed Replacement (untold i s t) ∷ []
entries_of Start = []
entries_of Stop = []
entries_of (Cursors _ _) = []

-- one change for two: at the place right after the first, the second makes s give way to t
abbrev pub followed : Swap → List ℕ → List ℕ → Swap
followed swap s t = untold swap.place (swap.old ++ s) (swap.new ++ t)

-- the one entry that stands for an entry and an event that joins it: an alphanumeric character right after what
-- was inserted, an alphanumeric cluster that stood right after what was deleted, or before it, and a replacement
-- right after what was put in. The one entry has no cursors yet
abbrev pub joined : Event → Entry → Option Entry
joined (InsertChar i c) (Changed Insertion last) =
    if is_alphanumeric c && (past last == i) then Some (Changed Insertion (followed last [] (encode_utf8 c))) else None
joined (Delete i s _) (Changed Deletion last) =
    if not (is_word_cluster s) then None
    else if past last == i then Some (Changed Deletion (followed last s []))
    else if i + length s == last.place then Some (Changed Deletion (untold i (s ++ last.old) last.new))
    else None
joined (Replace i s t) (Changed Replacement last) = if past last == i then Some (Changed Replacement (followed last s t)) else None
joined _ _ = None

-- a record is parted: the next change joins nothing
abbrev pub is_parted : Freshness → Bool
is_parted is.Parted = true
is_parted _ = false

-- the same in a record, in which nothing joins once it is parted
abbrev pub joined_in : Freshness → Event → Entry → Option Entry
joined_in is.Parted event e = None
joined_in _ event e = joined event e

-- an entry and an event that comes after it
abbrev pub joined_or_added : Freshness → Event → Entry → List Entry
joined_or_added fresh event e = option_map_or (λ joint. joint ∷ []) (joined_in fresh event e) (e ∷ entries_of event)

-- the entries after an event, which joins the last one or is added
abbrev pub entries_after : Freshness → Event → List Entry → List Entry
entries_after fresh event [] = entries_of event
entries_after fresh event (e ∷ []) = joined_or_added fresh event e
entries_after fresh event (e ∷ (d ∷ ds)) = e ∷ entries_after fresh event (d ∷ ds)

-- a change that an event joined has kept the cursor before it if its cursors were told, and else can't be told cursors
abbrev pub freshness_joined : Option (ℕ × ℕ) → Freshness
freshness_joined None = is.Stale
freshness_joined (Some cursors) = is.Joined cursors.0

-- no cursors may be told any more; a record that is parted stays so
abbrev pub freshness_told : Freshness → Freshness
freshness_told is.Parted = is.Parted
freshness_told _ = is.Stale

-- a change that was added may be told its cursors
abbrev pub freshness_added : Freshness → List Entry → Freshness
freshness_added fresh [] = freshness_told fresh
freshness_added fresh (_ ∷ _) = is.Added

-- whether the cursors of the last entry may be told after an event of a text
abbrev pub freshness_of : Freshness → Event → List Entry → Freshness
freshness_of fresh event [] = freshness_added fresh (entries_of event)
freshness_of fresh event (e ∷ []) =
    option_map_or (λ _. freshness_joined (cursors_of e)) (joined_in fresh event e) (freshness_added fresh (entries_of event))
freshness_of fresh event (e ∷ (d ∷ ds)) = freshness_of fresh event (d ∷ ds)

-- the freshness after an event: the start and the stop of a kill leave it, and telling cursors ends it
abbrev pub freshness_after : Event → Record → Freshness
freshness_after Start r = r.fresh
freshness_after Stop r = r.fresh
freshness_after (Cursors _ _) r = freshness_told r.fresh
freshness_after event r = freshness_of r.fresh event r.recorded

-- the entries, of which the last is told its cursors
abbrev pub last_told : ℕ × ℕ → List Entry → List Entry
last_told cursors [] = []
last_told cursors (e ∷ []) = with_cursors cursors e ∷ []
last_told cursors (e ∷ (d ∷ ds)) = e ∷ last_told cursors (d ∷ ds)

-- the entries once cursors were told: a change that was joined keeps the one before it
abbrev pub entries_told : Freshness → ℕ → ℕ → List Entry → List Entry
entries_told is.Stale before after es = es
entries_told is.Parted before after es = es
entries_told is.Added before after es = last_told (before, after) es
entries_told (is.Joined first) before after es = last_told (first, after) es

-- the recorded entries after an event
abbrev pub recorded_after : Event → Record → List Entry
recorded_after (Cursors before after) r = entries_told r.fresh before after r.recorded
recorded_after event r = entries_after r.fresh event r.recorded

-- what waits to be redone after an event: all of it if a kill starts or stops or cursors are told, and
-- else nothing
abbrev pub pending_after : Event → List Entry → List Entry
pending_after Start pending = pending
pending_after Stop pending = pending
pending_after (Cursors _ _) pending = pending
pending_after _ pending = []

-- the save point of a record that drops what was undone
abbrev pub point_kept : Record → Option ℕ
point_kept r = kept_point (change_count r.recorded) r.saved

-- the save point after an event, which drops what was undone unless a kill starts or stops or cursors are told
abbrev pub saved_after : Event → Record → Option ℕ
saved_after Start r = r.saved
saved_after Stop r = r.saved
saved_after (Cursors _ _) r = r.saved
saved_after _ r = point_kept r

-- the record after an event
unfoldable pub record_step : Record → Event → Record
record_step r event = record { recorded = recorded_after event r; pending = pending_after event r.pending; fresh = freshness_after event r; saved = saved_after event r }

-- the same record, in which the next change may join as this says, unless it stands at its save point; no cursors are told
abbrev pub gone_on : Freshness → Record → Record
gone_on fresh r = record r { fresh = if is_saved r then is.Parted else freshness_told fresh }

-- the same record, in which the next change joins nothing
abbrev pub parted : Record → Record
parted r = record r { fresh = is.Parted }

-- the same record, whose text is saved here
abbrev pub saved_here : Record → Record
saved_here r = record r { fresh = is.Parted; saved = Some (change_count r.recorded) }

-- a record that stands there is parted
abbrev pub IsApart : Record → Type 0
IsApart r = is_saved r ≡ true → r.fresh ≡ is.Parted

-- a save point that is there has these changes before it: those that were recorded at the save. Once they alone are recorded
-- no change joins them; and while the last of them is not recorded no cursors are told
pub record SavedAt (cs : List Entry) (r : Record) : Type 0 where
  pub point : r.saved ≡ Some (length cs)
  pub begins : take (length cs) (changes_of (r.recorded ++ r.pending)) ≡ cs
  pub apart : change_count r.recorded ≡ length cs → r.fresh ≡ is.Parted
  pub told : change_count r.recorded ≤ length cs → freshness_told r.fresh ≡ r.fresh

abbrev pub StaysSaved : List Entry → Record → Type 0
StaysSaved cs r = (r.saved ≡ None) ⊎ SavedAt cs r

-- an event that adds an entry or joins one: what is put in or taken out is not an empty text
abbrev pub IsRecorded : Event → Type 0
IsRecorded (InsertChar i c) = Unit {0}
IsRecorded (InsertStr i s) = 0 < length s
IsRecorded (Delete i s _) = 0 < length s
IsRecorded (Replace i s t) = Unit {0}
IsRecorded Start = ⊥
IsRecorded Stop = ⊥
IsRecorded (Cursors _ _) = ⊥

-- a record refuses an event that it would keep, since memory is out, and stays as it was
abbrev pub record_refused : Record → Event → Refusal → Record → Type 0
record_refused old event why now = (why ≡ NoMemory) × (now ≡ old) × IsRecorded event

-- entries gone over the other way round: each change is taken back, the last first, and the marks of a group change places
abbrev pub turned_all : List Entry → List Entry
turned_all es = map (λ (e : Entry). flipped (inverse e)) (reverse es)

-- two texts that are there, and the same
abbrev pub agree : Option (List ℕ) → Option (List ℕ) → Bool
agree (Some a) (Some b) = bytes_eq a b
agree _ _ = false

-- all recorded entries can be taken back from the text, so can the first `len` alone, and both give the same text
abbrev pub replays_to : ℕ → Record → List ℕ → Bool
replays_to len r text = agree (unwind r.recorded text) (unwind (take len r.recorded) text)

-- what the first entry that is not an End put in, of entries that are listed the last first
abbrev pub put_in_first : List Entry → Option (List ℕ)
put_in_first (End ∷ es) = put_in_first es
put_in_first (Changed Insertion swap ∷ es) = Some swap.new
put_in_first (Changed Replacement swap ∷ es) = Some swap.new
put_in_first _ = None

-- what the last entry put in, Ends passed over
abbrev pub last_insert : List Entry → Option (List ℕ)
last_insert es = put_in_first (reverse es)
