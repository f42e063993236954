-- Forgetting: the oldest units of a record go if more of it is kept than is wanted.
use Rattle.rl_line.specs.Entry.{End, Entry, change_count, new_text, old_text}
use Rattle.rl_record.specs.Record.{Record, point_past}
use Rattle.rl_record.specs.Units.{Open, UndoUnit, Whole, oldest_is_open, together, units}
use Rattle.rl_record.specs.declared.forgetting.Tally.{Tally}
use Rattle.std.specs.Prelude.{Bool, List, [], drop, get_or, if◌then◌else◌, length, nat_le, replicate, reverse, set, take, true, ℕ, ◌&&◌, ◌+◌, ◌-◌, ◌<◌, ◌^◌, ◌||◌, ◌∷◌, ◌≡◌, ◌≤◌}

-- how many bytes of text entries hold: what their changes took out, and what they put in
abbrev pub bytes_held : List Entry → ℕ
bytes_held [] = 0
bytes_held (e ∷ es) = (length (old_text e) + length (new_text e)) + bytes_held es

-- the bound that is none, of entries and of bytes
abbrev pub unbounded : ℕ
unbounded = 2 ^ 64 - 1

-- whether a number is within a bound
abbrev pub is_within : ℕ → ℕ → Bool
is_within bound n = nat_le unbounded bound || nat_le n bound

-- whether entries are within two bounds: how many they are, and how many bytes they hold
abbrev pub fits : ℕ → ℕ → List Entry → Bool
fits most bytes es = is_within most (length es) && is_within bytes (bytes_held es)

-- the units that stay, listed the oldest first: a change or a closed group goes as long as it and what comes after it do not fit.
-- The Begin of an open group stays, and all after it
abbrev pub units_kept : ℕ → ℕ → List UndoUnit → List UndoUnit
units_kept most bytes [] = []
units_kept most bytes (Open ∷ us) = Open ∷ us
units_kept most bytes (Whole es ∷ us) =
    if fits most bytes (together (reverse (Whole es ∷ us))) then Whole es ∷ us else units_kept most bytes us

-- the entries that stay, and those before them, which go
abbrev pub kept_within : ℕ → ℕ → List Entry → List Entry
kept_within most bytes es = together (reverse (units_kept most bytes (reverse (units es))))

abbrev pub gone_within : ℕ → ℕ → List Entry → List Entry
gone_within most bytes es = take (length es - length (kept_within most bytes es)) es

-- the record once its oldest units were forgotten. What was undone stays, and a save point that has their changes before it
abbrev pub forgotten : ℕ → ℕ → Record → Record
forgotten most bytes r =
    record r { recorded = kept_within most bytes r.recorded; saved = point_past (change_count (gone_within most bytes r.recorded)) r.saved }

-- ---- what private functions say
-- a record without its first k entries
abbrev pub without_first : ℕ → Record → Record
without_first k r = record r { recorded = drop k r.recorded; saved = point_past (change_count (take k r.recorded)) r.saved }

-- a record without the first k entries, which are forgotten
abbrev pub past_front : ℕ → Record → Record
past_front k r = record r { recorded = drop k r.recorded }

-- a record once its entry at i, which is forgotten, is an End; one change less stands before the save point if that was one
abbrev pub blanked : ℕ → Record → Record
blanked i r = record r { recorded = set r.recorded i End; saved = point_past (change_count (get_or r.recorded i End ∷ [])) r.saved }

-- what a tally says of the first m entries, of which `gone` are forgotten
pub record Counts (gone : ℕ) (tally : Tally) (m : ℕ) (es : List Entry) : Type 0 where
  pub counted : tally.counted ≤ m
  pub held : bytes_held (take tally.counted es) ≡ tally.held
  pub looked : tally.opened ≤ m
  pub opened : gone < tally.opened → oldest_is_open (units (drop gone (take tally.opened es))) ≡ true

-- the first of the entries are forgotten, and are Ends; what is counted holds of all but the last entry
pub record FrontGone (gone : ℕ) (tally : Tally) (es : List Entry) : Type 0 where
  pub ends : take gone es ≡ replicate gone End
  pub counts : Counts gone tally (length es - 1) es
