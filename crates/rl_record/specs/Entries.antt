-- What the private functions of a record's entries say of them.
use Rattle.rl_base.specs.Event.{Event}
use Rattle.rl_line.specs.Entry.{Begin, End, Entry, change_count, cursors_of}
use Rattle.rl_record.specs.Record.{IsApart, Record, entries_of, freshness_added, freshness_at, freshness_joined, joined, kept_point, point_kept, record_step}
use Rattle.rl_record.specs.declared.joining.Freshness.{Freshness}
use Rattle.std.specs.Prelude.{Bool, List, None, Option, Some, [], drop, false, suc, take, true, ℕ, ◌++◌, ◌-◌, ◌∷◌, ◌≡◌}

-- what an entry makes of an event: if they join, it takes the event in, and `fresh` says what it may be told of its cursors;
-- else it stays as it is
abbrev pub TakesIn : Event → Entry → Entry → Option Freshness → Type 0
TakesIn event old new (Some fresh) = (joined event old ≡ Some new) × (fresh ≡ freshness_joined (cursors_of old))
TakesIn event old new None = (joined event old ≡ None) × (new ≡ old)

-- a list of entries, read as a record: the first n are recorded, and those after them wait to be redone
abbrev pub cut_at : ℕ → List Entry → Freshness → Option ℕ → Record
cut_at n es fresh saved = record { recorded = take n es; pending = drop n es; fresh = fresh; saved = saved }

-- the same list cut elsewhere, as an undo or a redo leaves it
abbrev pub cut_to : ℕ → List Entry → Option ℕ → Record
cut_to n es saved = cut_at n es (freshness_at (change_count (take n es)) saved) saved

-- a record once what was undone is dropped, and once an entry was added
abbrev pub settled : Freshness → Record → Record
settled fresh r = record { recorded = r.recorded; pending = []; fresh = fresh; saved = point_kept r }

abbrev pub added : Entry → Freshness → Record → Record
added e fresh r = record { recorded = r.recorded ++ e ∷ []; pending = []; fresh = fresh; saved = point_kept r }

-- so many changes are recorded, and the save point has no more changes before it than there are; a record that stands there is parted
pub record StandsAt (count : ℕ) (r : Record) : Type 0 where
  pub counted : count ≡ change_count r.recorded
  pub point : kept_point (change_count (r.recorded ++ r.pending)) r.saved ≡ r.saved
  pub apart : IsApart r

-- what a try to join an event to the last recorded entry does: it joins, or the record stays and the event adds its entries
abbrev pub Joins : Event → Record → Record → Bool → Type 0
Joins event old new true = new ≡ record_step old event
Joins event old new false =
    (new ≡ old) × (record_step old event ≡ record { recorded = old.recorded ++ entries_of event; pending = []; fresh = freshness_added old.fresh (entries_of event); saved = point_kept old })

-- how many groups are open after the entries, if d are open before them
abbrev pub deep : ℕ → List Entry → ℕ
deep d [] = d
deep d (Begin ∷ es) = deep (suc d) es
deep d (End ∷ es) = deep (d - 1) es
deep d (e ∷ es) = deep d es
