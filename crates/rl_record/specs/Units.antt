-- Undo groups: the units that an undo takes off and a redo puts back, and what each call makes of the record.
use Rattle.rl_base.specs.Event.{Event}
use Rattle.rl_line.specs.Entry.{Begin, Changed, End, Entry, change_count, has_change, is_begin, is_end}
use Rattle.rl_record.specs.Record.{Record, arrived, gone_on, is_saved, kept_point, last_insert, parted, point_kept, record_step, turned_all}
use Rattle.rl_record.specs.declared.changeset.groups.UnitStart.{UnitStart}
use Rattle.std.specs.Option.{option_map_or}
use Rattle.std.specs.Prelude.{Bool, IsSome, IsTrue, List, None, Option, Some, [], drop, false, if◌then◌else◌, length, map, max, min, nat_le, not, option_and_then, reverse, suc, take, true, zero, ℕ, ◌&&◌, ◌++◌, ◌-◌, ◌==◌, ◌||◌, ◌∷◌, ◌≡◌}

-- a unit: the Begin of an open group, or entries that come and go as one, which are a change or a closed group
pub data UndoUnit : Type 0 where
  Open : UndoUnit
  Whole : (entries : List Entry) → UndoUnit

abbrev pub entries : UndoUnit → List Entry
entries Open = Begin ∷ []
entries (Whole es) = es

-- the units, the latest first, after an End: from the Begin that is open last, all is one unit
abbrev pub close : List Entry → List UndoUnit → List UndoUnit
close inner [] = Whole (inner ++ End ∷ []) ∷ []
close inner (Open ∷ us) = Whole (Begin ∷ (inner ++ End ∷ [])) ∷ us
close inner (Whole es ∷ us) = close (es ++ inner) us

-- the units, the latest first, after an entry
abbrev pub add_entry : Entry → List UndoUnit → List UndoUnit
add_entry Begin us = Open ∷ us
add_entry End us = close [] us
add_entry (Changed kind swap) us = Whole (Changed kind swap ∷ []) ∷ us

abbrev pub cut_more : List UndoUnit → List Entry → List UndoUnit
cut_more us [] = us
cut_more us (e ∷ es) = cut_more (add_entry e us) es

-- the units of entries, the latest first. An insertion of a, a Begin, and insertions of b and c are four units: those of c and
-- of b, the Begin, and that of a. With an End after them they are two: all from the Begin to the End, and the insertion of a.
abbrev pub units : List Entry → List UndoUnit
units es = cut_more [] es

-- the entries of units, the latest unit first
abbrev pub together : List UndoUnit → List Entry
together [] = []
together (u ∷ us) = together us ++ entries u

-- how many groups are open
abbrev pub opens : List UndoUnit → ℕ
opens [] = 0
opens (Open ∷ us) = suc (opens us)
opens (Whole es ∷ us) = opens us

abbrev pub level : List Entry → ℕ
level es = opens (units es)

-- whether the oldest unit is the Begin of an open group, of units that are listed the latest first
abbrev pub oldest_is_open : List UndoUnit → Bool
oldest_is_open [] = false
oldest_is_open (Open ∷ []) = true
oldest_is_open (Whole es ∷ []) = false
oldest_is_open (u ∷ (v ∷ vs)) = oldest_is_open (v ∷ vs)

-- the units that an undo of n takes off: the last n, at least one, or all if there are fewer
abbrev pub last_units : ℕ → List Entry → List UndoUnit
last_units n es = take (max n 1) (units es)

-- their entries, and those before them
abbrev pub last_of : ℕ → List Entry → List Entry
last_of n es = together (last_units n es)

abbrev pub kept_of : ℕ → List Entry → List Entry
kept_of n es = together (drop (max n 1) (units es))

-- how many units the group has that was opened last and is open, its Begin among them; all if none is open
abbrev pub size_to_open : List UndoUnit → ℕ
size_to_open [] = 0
size_to_open (Open ∷ us) = 1
size_to_open (Whole es ∷ us) = suc (size_to_open us)

abbrev pub open_size : List Entry → ℕ
open_size es = size_to_open (units es)

-- whether a group is open, and the entries of the one that was opened last, with its Begin; none if none is
abbrev pub is_open : List Entry → Bool
is_open es = not (level es == 0)

abbrev pub open_group : List Entry → List Entry
open_group es = if is_open es then last_of (open_size es) es else []

-- how many units the group has so far that was opened last and is open, its Begin aside; None if no group is open
abbrev pub units_in_group : List Entry → Option ℕ
units_in_group es = if is_open es then Some (open_size es - 1) else None

-- the entries that a redo puts back: the first unit, or all if that is the Begin of an open group
abbrev pub redo_from : List Entry → List UndoUnit → List Entry
redo_from es [] = []
redo_from es (Open ∷ us) = es
redo_from es (Whole inner ∷ us) = inner

abbrev pub redo_of : List Entry → List Entry
redo_of es = redo_from es (reverse (units es))

abbrev pub ends_in_begin : List Entry → Bool
ends_in_begin [] = false
ends_in_begin (e ∷ []) = is_begin e
ends_in_begin (e ∷ (d ∷ ds)) = ends_in_begin (d ∷ ds)

abbrev pub ends_in_end : List Entry → Bool
ends_in_end [] = false
ends_in_end (e ∷ []) = is_end e
ends_in_end (e ∷ (d ∷ ds)) = ends_in_end (d ∷ ds)

-- the group that was opened last is closed: a Begin at the end is removed, else an End is added
abbrev pub end_one : List Entry → List Entry
end_one [] = End ∷ []
end_one (e ∷ []) = if is_begin e then [] else e ∷ (End ∷ [])
end_one (e ∷ (d ∷ ds)) = e ∷ end_one (d ∷ ds)

-- n groups are closed
abbrev pub end_times : ℕ → List Entry → List Entry
end_times zero es = es
end_times (suc n) es = end_times n (end_one es)

-- whether the entries have one more End once n groups are closed: a group that is not empty gets one
abbrev pub adds_end : ℕ → List Entry → Bool
adds_end zero es = false
adds_end (suc n) es = not (ends_in_begin es) || adds_end n (end_one es)

-- the record after each call
abbrev pub begun : Record → Record
begun r = arrived (r.recorded ++ Begin ∷ []) [] (point_kept r)

-- after n groups were closed, the one that was opened last first; after all were; after one was, if one is open
abbrev pub with_closed : ℕ → Record → Record
with_closed n r = arrived (end_times n r.recorded) [] (point_kept r)

abbrev pub ended : Record → Record
ended r = with_closed (level r.recorded) r

abbrev pub ended_one : Record → Record
ended_one r = with_closed (min 1 (level r.recorded)) r

abbrev pub undone : ℕ → Record → Record
undone n r = arrived (kept_of n r.recorded) (last_of n r.recorded ++ r.pending) r.saved

-- the same record, in which nothing waits to be redone
abbrev pub redo_dropped : Record → Record
redo_dropped r = arrived r.recorded [] (point_kept r)

-- the record once the group that was opened last was taken back and forgotten, if one is open
abbrev pub abandoned : Record → Record
abandoned r = if is_open r.recorded then redo_dropped (undone (open_size r.recorded) r) else r

abbrev pub redone : Record → Record
redone r = arrived (r.recorded ++ redo_of r.pending) (drop (length (redo_of r.pending)) r.pending) r.saved

abbrev pub truncated : ℕ → Record → Record
truncated len r = arrived (take len r.recorded) [] (kept_point (change_count (take len r.recorded)) r.saved)

-- the entries of the next n units, at least one, or all if there are fewer: the first first
abbrev pub next_of : ℕ → List Entry → List Entry
next_of n es = together (reverse (take (max n 1) (reverse (units es))))

-- whether entries wait to be redone
abbrev pub waits : List Entry → Bool
waits [] = false
waits (e ∷ es) = true

-- entries of which all groups are closed
abbrev pub closed_all : List Entry → List Entry
closed_all es = end_times (level es) es

-- the record once these entries are recorded, where what waits to be redone stays
abbrev pub still_waiting : List Entry → Record → Record
still_waiting es r = arrived es r.pending r.saved

-- what waited to be redone, with its groups closed, and then the other way round
abbrev pub there_and_back : List Entry → List Entry
there_and_back es = closed_all es ++ turned_all (closed_all es)

-- the record that keeps what was undone: it goes there and back, nothing waits to be redone, and the next change joins nothing
abbrev pub kept_undone : Record → Record
kept_undone r =
    if waits r.pending then parted (arrived (r.recorded ++ there_and_back r.pending) [] r.saved) else r

-- the group that ends the record is taken up again, if one does: its End is taken off
abbrev pub reopened : Record → Record
reopened r = if ends_in_end r.recorded then truncated (length r.recorded - 1) r else r

-- the open groups, the latest first, each with whether it holds a change; the latest comes to hold one
abbrev pub touched : List Bool → List Bool
touched [] = []
touched (_ ∷ flags) = true ∷ flags

-- the open groups after an entry: none if it is an End of no group, or of a group without a change
abbrev pub mark : Entry → List Bool → Option (List Bool)
mark Begin flags = Some (false ∷ flags)
mark End [] = None
mark End (false ∷ flags) = None
mark End (true ∷ flags) = Some (touched flags)
mark (Changed kind swap) flags = Some (touched flags)

abbrev pub marks : List Entry → List Bool → Option (List Bool)
marks [] flags = Some flags
marks (e ∷ es) flags = option_and_then (marks es) (mark e flags)

-- each End has its Begin before it, and each closed group holds a change
abbrev pub IsMatched : List Entry → Type 0
IsMatched es = IsSome (marks es [])

-- this holds for both lists of a record
pub record BothMatched (r : Record) : Type 0 where
  pub recorded : IsMatched r.recorded
  pub pending : IsMatched r.pending

-- matched marks in both lists, and n groups that are open
pub record AtLevel (n : ℕ) (r : Record) : Type 0 where
  pub matched : BothMatched r
  pub level : n ≡ level r.recorded

-- the entries end with a Begin and what stands in its group: matched entries with no open group, and a change
pub record GroupAt (es : List Entry) : Type 0 where
  pub before : List Entry
  pub inner : List Entry
  pub is : es ≡ before ++ Begin ∷ inner
  pub matched : IsMatched inner
  pub closed : level inner ≡ 0
  pub changed : IsTrue (has_change inner)

-- what may happen in an open group: an event, or the begin of another
pub data InGroup : Type 0 where
  Hears : Event → InGroup
  Begins : InGroup

abbrev pub after_in_group : List InGroup → Record → Record
after_in_group [] r = r
after_in_group (Hears event ∷ steps) r = after_in_group steps (record_step r event)
after_in_group (Begins ∷ steps) r = after_in_group steps (begun r)

-- the record after a group was begun, and these events
abbrev pub in_group : List Event → Record → Record
in_group events r = after_in_group (map Hears events) (begun r)

-- the entries from the begin of that group on
abbrev pub group_of : List Event → Record → List Entry
group_of events r = drop (length r.recorded) (in_group events r).recorded

-- ---- what was recorded becomes one unit
-- how many bytes the last change put in; 0 if it put in none
abbrev pub put_in_last : List Entry → ℕ
put_in_last es = option_map_or length (last_insert es) 0

-- how many entries a unit takes in that were recorded before it: those of the last unit, if the last change put in so many bytes,
-- 0 aside, and the text is not saved here
abbrev pub taken_in : ℕ → Record → ℕ
taken_in put_in r = if not (put_in == 0) && (put_in_last r.recorded == put_in && not (is_saved r)) then length (last_of 1 r.recorded) else 0

-- where a unit begins: after so many entries, of so many that are recorded, with this freshness
abbrev pub unit_start : ℕ → Record → UnitStart
unit_start put_in r = record { from = length r.recorded - taken_in put_in r; len = length r.recorded; was = r.fresh }

-- whether no group stays open after entries, each End among them has its Begin among them, and each closed group holds a change
abbrev pub is_whole : List Entry → Bool
is_whole es = option_map_or (λ (flags : List Bool). length flags == 0) (marks es []) false

-- the entries from k on make a group
abbrev pub grouped_from : ℕ → List Entry → List Entry
grouped_from k es = take k es ++ Begin ∷ (drop k es ++ End ∷ [])

-- whether a unit makes a group: entries were recorded since it began, nothing waits to be redone, and it has several entries,
-- which are whole
abbrev pub makes_group : UnitStart → Record → Bool
makes_group start r =
    not (length r.recorded == start.len) && (not (waits r.pending) && (nat_le 2 (length (drop start.from r.recorded)) && is_whole (drop start.from r.recorded)))

-- the record once the unit is made. If no entry was recorded, it may go on as it could before the unit began
abbrev pub united : UnitStart → Record → Record
united start r =
    if length r.recorded == start.len then gone_on start.was r
    else if makes_group start r then arrived (grouped_from start.from r.recorded) [] r.saved
    else r
