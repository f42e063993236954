-- The entries of a record: what a change does, what takes it back, and what text entries lead to.
use Rattle.rl_base.specs.Event.{Event, Replace, Start, Stop, apply, replay}
use Rattle.rl_line.specs.declared.change.Change.{Change}
use Rattle.rl_line.specs.declared.inserted.Inserted.{Inserted}
use Rattle.rl_line.specs.declared.inserted.Inserted.TheVariants.{Few, Many}
use Rattle.std.specs.List.{filter}
use Rattle.std.specs.Prelude.{Bool, List, None, Option, Some, [], false, length, map, option_and_then, reverse, true, ℕ, ◌+◌, ◌||◌, ◌∷◌, ◌≡◌}
use Rattle.std.specs.String.{string_bytes}
use Rattle.rl_line.specs.declared.change.Change.TheVariants as made

-- the kinds of changes, which differ in what joins them
pub data Kind : Type 0 where
  Insertion : Kind
  Deletion : Kind
  Replacement : Kind

-- what a change does: at a place, one text gives way to another; and the cursor's places before and after it, if these were told
pub record Swap : Type 0 where
  pub place : ℕ
  pub old : List ℕ
  pub new : List ℕ
  pub cursors : Option (ℕ × ℕ)

-- the marks of a group's begin and end, and the changes
pub data Entry : Type 0 where
  Begin : Entry
  End : Entry
  Changed : (kind : Kind) (swap : Swap) → Entry

-- the text of an insertion
abbrev pub inserted_bytes : Inserted → List ℕ
inserted_bytes (Few s) = s.bytes
inserted_bytes (Many s) = string_bytes s

-- the entry that a change of the code stands for
abbrev pub entry_of : Change → Entry
entry_of made.Begin = Begin
entry_of made.End = End
entry_of (made.Insert cursors i s) = Changed Insertion (record { place = i; old = []; new = inserted_bytes s; cursors = cursors })
entry_of (made.Delete cursors i gathered) = Changed Deletion (record { place = i; old = gathered.text; new = []; cursors = cursors })
entry_of (made.Replace cursors i texts) =
    Changed Replacement (record { place = i; old = string_bytes texts.value.before; new = string_bytes texts.value.after; cursors = cursors })

-- an insertion takes nothing out, and a deletion puts nothing in
abbrev pub IsOfKind : Entry → Type 0
IsOfKind (Changed Insertion swap) = swap.old ≡ []
IsOfKind (Changed Deletion swap) = swap.new ≡ []
IsOfKind _ = Unit {0}

-- whether an entry is a change
abbrev pub is_change : Entry → Bool
is_change (Changed kind swap) = true
is_change _ = false

-- the changes among entries, and how many there are: marks are left out
abbrev pub changes_of : List Entry → List Entry
changes_of es = filter is_change es

abbrev pub change_count : List Entry → ℕ
change_count es = length (changes_of es)

-- the place right after what a change put in
abbrev pub past : Swap → ℕ
past swap = swap.place + length swap.new

-- the cursors of a change, if they were told
abbrev pub cursors_of : Entry → Option (ℕ × ℕ)
cursors_of (Changed kind swap) = swap.cursors
cursors_of _ = None

-- the change with these cursors; a mark has none
abbrev pub with_cursors : ℕ × ℕ → Entry → Entry
with_cursors cursors (Changed kind swap) = Changed kind (record swap { cursors = Some cursors })
with_cursors cursors mark = mark

-- the event that redoes an entry: an insertion replaces nothing, and a deletion replaces by nothing; a mark changes nothing
abbrev pub event_of : Entry → Event
event_of Begin = Start
event_of End = Stop
event_of (Changed kind swap) = Replace swap.place swap.old swap.new

-- the same places the other way round
abbrev pub swapped : Option (ℕ × ℕ) → Option (ℕ × ℕ)
swapped None = None
swapped (Some cursors) = Some (cursors.1, cursors.0)

-- the kind of what takes a change back
abbrev pub opposite : Kind → Kind
opposite Insertion = Deletion
opposite Deletion = Insertion
opposite Replacement = Replacement

-- the entry that takes an entry back
abbrev pub inverse : Entry → Entry
inverse (Changed kind swap) = Changed (opposite kind) (record { place = swap.place; old = swap.new; new = swap.old; cursors = swapped swap.cursors })
inverse mark = mark

-- the other mark of a group; a change stays
abbrev pub flipped : Entry → Entry
flipped Begin = End
flipped End = Begin
flipped (Changed kind swap) = Changed kind swap

-- the text that stood at a change's place before it, and the one that stood there after it
abbrev pub old_text : Entry → List ℕ
old_text (Changed kind swap) = swap.old
old_text _ = []

abbrev pub new_text : Entry → List ℕ
new_text (Changed kind swap) = swap.new
new_text _ = []

-- how many bytes come when the entries are taken back, and when they are made again
abbrev pub bytes_back : List Entry → ℕ
bytes_back [] = 0
bytes_back (e ∷ es) = length (old_text e) + bytes_back es

abbrev pub bytes_ahead : List Entry → ℕ
bytes_ahead [] = 0
bytes_ahead (e ∷ es) = length (new_text e) + bytes_ahead es

-- the events that take entries back, the last first, and those that make them again
abbrev pub events_back : List Entry → List Event
events_back entries = map (λ (e : Entry). event_of (inverse e)) (reverse entries)

abbrev pub events_ahead : List Entry → List Event
events_ahead entries = map event_of entries

-- the text after the entries, from the text before them: the first is made first
abbrev pub replay_entries : List Entry → List ℕ → Option (List ℕ)
replay_entries es text = replay (events_ahead es) text

-- the text before the entries, from the text after them: the last is taken back first
abbrev pub unwind : List Entry → List ℕ → Option (List ℕ)
unwind [] text = Some text
unwind (e ∷ es) text = option_and_then (apply (event_of (inverse e))) (unwind es text)

abbrev pub has_change : List Entry → Bool
has_change [] = false
has_change (e ∷ es) = is_change e || has_change es

abbrev pub is_begin : Entry → Bool
is_begin Begin = true
is_begin _ = false

abbrev pub is_end : Entry → Bool
is_end End = true
is_end _ = false
