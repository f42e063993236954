-- What undos and redos do: how a line and its record go back, and ahead again.
use Rattle.rl_base.specs.declared.listeners.Refusal.{Refusal}
use Rattle.rl_base.specs.declared.listeners.Refusal.TheVariants.{NoMemory}
use Rattle.rl_line.specs.Entry.{Entry, bytes_ahead, bytes_back, has_change}
use Rattle.rl_line.specs.Going.{line_ahead, line_back}
use Rattle.rl_line.specs.Line.{Line, NeedsRoom}
use Rattle.rl_line.specs.Walk.{Walk}
use Rattle.rl_line.specs.declared.change.Way.{Way}
use Rattle.rl_line.specs.declared.change.Way.TheVariants.{Ahead, Back}
use Rattle.rl_record.specs.Record.{Record, freshness_told}
use Rattle.rl_record.specs.Units.{abandoned, is_open, last_of, open_group, redo_of, redone, undone}
use Rattle.std.specs.Prelude.{Any, Bool, List, Some, length, suc, true, zero, ℕ, ◌+◌, ◌-◌, ◌<◌, ◌^◌, ◌≡◌, ◌≤◌}
use Rattle.std.specs.Str.{IsUtf8}

-- when entries are taken back in a copy of a text, that takes memory only if there is a change, and the text, or one on the
-- way, is not empty
abbrev pub CopiesBack : List Entry → List ℕ → Type 0
CopiesBack es text = (has_change es ≡ true) × (0 < length text + bytes_back es)

-- whether a text can go back over entries, or ahead, is tried on a copy of a part of it, if they are several
abbrev pub TriesBack : List Entry → List ℕ → Type 0
TriesBack es text = (1 < length es) × CopiesBack es text

abbrev pub TriesAhead : List Entry → List ℕ → Type 0
TriesAhead es text = (1 < length es) × ((has_change es ≡ true) × (0 < length text + bytes_ahead es))

-- what an undo of n does: the line goes back over the last units, which wait to be redone. The answer: was there a change?
pub record Undone (n : ℕ) (old new : Record) (line line' : Line) (answer : Bool) : Type 0 where
  pub line_is : line_back (last_of n old.recorded) line ≡ Some line'
  pub record_is : new ≡ undone n old
  pub answer_is : answer ≡ has_change (last_of n old.recorded)

-- what a redo does: the line goes ahead over the next unit, which is recorded again. The answer: was there a change?
pub record Redone (old new : Record) (line line' : Line) (answer : Bool) : Type 0 where
  pub line_is : line_ahead (redo_of old.pending) line ≡ Some line'
  pub record_is : new ≡ redone old
  pub answer_is : answer ≡ has_change (redo_of old.pending)

-- what an abandon does: the line goes back over the group that was opened last, which is forgotten. The answer: was one open?
pub record Abandoned (old new : Record) (line line' : Line) (answer : Bool) : Type 0 where
  pub line_is : line_back (open_group old.recorded) line ≡ Some line'
  pub record_is : new ≡ abandoned old
  pub answer_is : answer ≡ is_open old.recorded

-- an undo or a redo that found no change leaves text and cursor
abbrev pub StandsStill : Line → Line → Type 0
StandsStill line line' = (line'.text ≡ line.text) × (line'.cursor ≡ line.cursor)

-- the same, and so is the record
abbrev pub OutOfRoom : Record → Record → Line → Line → List (List ℕ) → Refusal → Type 0
OutOfRoom old new line line' texts why = (why ≡ NoMemory) × (new ≡ old) × (line' ≡ line) × Any (NeedsRoom line.text) texts

-- ---- both ways in one
-- the entries that an undo of n takes back, or that a redo makes again
abbrev pub unit_of : Way → ℕ → Record → List Entry
unit_of Back n r = last_of n r.recorded
unit_of Ahead n r = redo_of r.pending

-- the record after it
abbrev pub moved : Way → ℕ → Record → Record
moved Back n r = undone n r
moved Ahead n r = redone r

abbrev pub Tries : Way → List Entry → List ℕ → Type 0
Tries Back es text = TriesBack es text
Tries Ahead es text = TriesAhead es text

abbrev pub GoesOver : Way → ℕ → Record → Record → Line → Line → Bool → Type 0
GoesOver Back n old new line line' answer = Undone n old new line line' answer
GoesOver Ahead n old new line line' answer = Redone old new line line' answer

-- how many entries are recorded, or how many groups are open, once a line went over `count` of them, and that this is a number
abbrev pub count_over : Way → ℕ → ℕ → ℕ
count_over Back n count = n - count
count_over Ahead n count = n + count

abbrev pub Reaches : Way → ℕ → ℕ → Type 0
Reaches Back n count = count ≤ n
Reaches Ahead n count = n + count < 2 ^ 64

-- redos, one after another
abbrev pub Redos : ℕ → Record → Record → Line → Line → Type 0
Redos zero old new line line' = (new ≡ old) × (line' ≡ line)
Redos (suc n) old new line line' = (mid : Record) × (between : Line) × (answer : Bool) × Redone old mid line between answer × Redos n mid new between line'

-- what is recorded leads to a text, and what was undone leads on from there; the last change can't be told its cursors any more
pub record Walks (r : Record) (text : List ℕ) : Type 0 where
  pub start : List ℕ
  pub is_text : IsUtf8 start
  pub back : Walk r.recorded start text
  pub end : List ℕ
  pub ahead : Walk r.pending text end
  pub stale : freshness_told r.fresh ≡ r.fresh
