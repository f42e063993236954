-- A record as bytes.
use Rattle.rl_base.specs.Saving.{Fits, numbers}
use Rattle.rl_base.specs.declared.saving.Width.TheVariants.{Eight, Four}
use Rattle.rl_line.specs.Change.{place}
use Rattle.rl_line.specs.Entry.{Begin, Changed, Deletion, End, Entry, Insertion, IsOfKind, Kind, Replacement, change_count, cursors_of, new_text, old_text}
use Rattle.rl_record.specs.Record.{IsApart, Record, kept_point}
use Rattle.rl_record.specs.Units.{BothMatched}
use Rattle.rl_record.specs.declared.joining.Freshness.{Freshness}
use Rattle.std.specs.List.{flat_map}
use Rattle.std.specs.Prelude.{All, List, None, Option, Some, [], length, ℕ, ◌++◌, ◌+◌, ◌∷◌, ◌≡◌}
use Rattle.std.specs.Str.{IsUtf8}
use Rattle.rl_record.specs.declared.joining.Freshness.TheVariants as is

-- an entry's kind, one more if it was told its cursors
abbrev pub kind_number : Kind → ℕ
kind_number Insertion = 2
kind_number Deletion = 4
kind_number Replacement = 6

abbrev pub told_number : Option (ℕ × ℕ) → ℕ
told_number None = 0
told_number (Some _) = 1

abbrev pub entry_number : Entry → ℕ
entry_number Begin = 0
entry_number End = 1
entry_number (Changed kind swap) = kind_number kind + told_number swap.cursors

-- a number that is there, or 0; and two
abbrev pub number_or_0 : Option ℕ → ℕ
number_or_0 None = 0
number_or_0 (Some n) = n

abbrev pub pair_or_0 : Option (ℕ × ℕ) → ℕ × ℕ
pair_or_0 None = (0, 0)
pair_or_0 (Some cursors) = cursors

-- the numbers of an entry: its kind, its place, the cursor before and after it, and how long its texts are
abbrev pub entry_numbers : Entry → List ℕ
entry_numbers e =
    entry_number e ∷ number_or_0 (place e) ∷ (pair_or_0 (cursors_of e)).0 ∷ (pair_or_0 (cursors_of e)).1 ∷ length (old_text e) ∷ length (new_text e) ∷ []

-- an entry as bytes: its numbers, the text that went and the one that came
unfoldable pub saved_entry : Entry → List ℕ
saved_entry e = numbers Four (entry_numbers e) ++ (old_text e ++ new_text e)

unfoldable pub saved_entries : List Entry → List ℕ
saved_entries es = flat_map saved_entry es

abbrev pub FitsEntry : Entry → Type 0
FitsEntry e = All (Fits Four) (entry_numbers e)

-- an entry that can be read again
pub record IsSavedEntry (e : Entry) : Type 0 where
  pub fits : FitsEntry e
  pub kind : IsOfKind e
  pub old : IsUtf8 (old_text e)
  pub new : IsUtf8 (new_text e)

-- what may be told of the last entry, and the cursor before it if one was kept
abbrev pub fresh_number : Freshness → ℕ
fresh_number is.Stale = 0
fresh_number is.Parted = 1
fresh_number is.Added = 2
fresh_number (is.Joined _) = 3

abbrev pub kept_number : Freshness → ℕ
kept_number (is.Joined before) = before
kept_number _ = 0

-- whether the text was saved, and after how many changes
abbrev pub point_number : Option ℕ → ℕ
point_number None = 0
point_number (Some _) = 1

-- the numbers of a record, first how many entries it has, and how many of them are recorded
abbrev pub record_numbers : Record → List ℕ
record_numbers r =
    length (r.recorded ++ r.pending) ∷ length r.recorded ∷ fresh_number r.fresh ∷ kept_number r.fresh ∷ point_number r.saved ∷ number_or_0 r.saved ∷ []

-- a record as bytes: its numbers, and then its entries, those that wait to be redone last
unfoldable pub saved_record : Record → List ℕ
saved_record r = numbers Eight (record_numbers r) ++ saved_entries (r.recorded ++ r.pending)

-- a record that can be read again
pub record IsSavedRecord (r : Record) : Type 0 where
  pub fits : All (Fits Eight) (record_numbers r)
  pub matched : BothMatched r
  pub point : kept_point (change_count (r.recorded ++ r.pending)) r.saved ≡ r.saved
  pub apart : IsApart r
  pub entries : All IsSavedEntry (r.recorded ++ r.pending)
