-- What a session makes of a command by its options.
use Rattle.std.specs.Prelude.{◌≡◌, ◌⊎◌, ℕ, ◌+◌, ◌-◌, ◌*◌, max, min, nat_le, Bool, true, false, ◌&&◌, ◌<◌, length, take, encode_utf8, List, [], ◌∷◌, ◌++◌, Option, Some, None, unwrap_or, String, Result, MatchOption, if◌then◌else◌, not}
use mathlib.Core.Logic.{inl, inr}
use Rattle.std.specs.Str.{IsCharBoundary}
use Rattle.std.specs.String.{string_bytes}
use Rattle.std.specs.declared.alloc.Global.{Global}
use Rattle.rl_base.specs.KillRing.{yank, yank_pop, yank_size}
use Rattle.rl_line.specs.Change.{greatest_ahead_over, greatest_back_over}
use Rattle.rl_line.specs.Edits.{CanInsertStr, insert_str_plan, replace_plan, too_long}
use Rattle.rl_line.specs.Indents.{indent_changes, indent_plan}
use Rattle.rl_line.specs.LetterCase.{edit_word_plan}
use Rattle.rl_line.specs.Line.{Line}
use Rattle.rl_line.specs.LineRanges.{IsRange}
use Rattle.rl_line.specs.Plan.{a_copy, longest_by, unbegun}
use Rattle.rl_line.specs.Transpositions.{transpose_words_plan}
use Rattle.rl_line.specs.Entry.{has_change, Entry}
use Rattle.rl_record.specs.Units.{last_of, level, makes_group, open_group, redo_of, unit_start, united, units_in_group, adds_end, is_open, still_waiting, waits}
use Rattle.rl_record.specs.Record.{parted}
use Rattle.rl_record.specs.declared.changeset.groups.UnitStart.{UnitStart}
use Rattle.rl_session.specs.Commands.{Does, StandsYanked, Step, with_changes}
use Rattle.rl_session.specs.Forgetting.{Forgets}
use Rattle.rl_session.specs.History.{Holds, MayStandInGroup, StandsAfter, WasRefused}
use Rattle.rl_session.specs.KillRuns.{IsDirectedKill}
use Rattle.rl_session.specs.Options.{no_bound}
use Rattle.rl_session.specs.Replies.{replied}
use Rattle.rl_session.specs.Run.{Row}
use Rattle.rl_session.specs.State.{State}
use Rattle.rl_base.specs.declared.motion.Movement.TheVariants.{WholeBuffer}
use Rattle.rl_session.specs.declared.session.Command.{Command}
use Rattle.rl_session.specs.declared.session.Command.TheVariants.{Abandon, Copy, EditWord, Indent, Insert, InsertStr, Keep, KeepUndone, LinePlace, Move, Part, Paste, Redo, Reopen, Replace, SetPos, TransposeChars, TransposeWords, Truncate, Undo, Update, Yank, YankPop, Begin, End, EndOne}
use Rattle.rl_session.specs.declared.session.Fault.{Fault}
use Rattle.rl_session.specs.declared.session.Fault.TheVariants.{NoMemory, TooLong}
use Rattle.rl_session.specs.declared.session.Reply.{Reply}
use Rattle.rl_session.specs.declared.session.Reply.TheVariants.{Answer, Refused}

-- so many bytes are within the limit
abbrev pub is_within : State → ℕ → Bool
is_within s n = nat_le n s.line.limit

-- a text that the ring lends, if it lends one, makes the text too long if it goes in n times
abbrev pub lent_too_long : Line → Option (List ℕ) → ℕ → Bool
lent_too_long line None n = false
lent_too_long line (Some t) n = too_long line (length line.text + length t * n)

-- the same of a text that takes the place of so many bytes
abbrev pub popped_too_long : Line → Option (ℕ × List ℕ) → Bool
popped_too_long line None = false
popped_too_long line (Some (z, t)) = too_long line (length line.text - z + length t)

-- the limit bars a command: its places are good, and the text would get longer than the limit, at the end or on the way of its
-- steps
abbrev pub IsBarred : State → Command → Type 0
IsBarred s (Insert c n) = too_long s.line (length s.line.text + length (encode_utf8 c) * n) ≡ true
IsBarred s (Paste t n) = too_long s.line (length s.line.text + length (string_bytes t) * n) ≡ true
IsBarred s (Yank n) = lent_too_long s.line (yank s.pair.ring) n ≡ true
IsBarred s YankPop = StandsYanked (yank_size s.pair.ring) s.line × (popped_too_long s.line (yank_pop s.pair.ring) ≡ true)
IsBarred s (Update t q) = IsCharBoundary (string_bytes t) q × (too_long s.line (length (string_bytes t)) ≡ true)
IsBarred s (InsertStr i t) = CanInsertStr s.line i (string_bytes t) × (is_within s (longest_by s.line (insert_str_plan s.line i (string_bytes t))) ≡ false)
IsBarred s (Replace i j t) = IsRange s.line.text i j × (is_within s (longest_by s.line (replace_plan s.line i j (string_bytes t))) ≡ false)
IsBarred s (TransposeWords n) = is_within s (longest_by s.line (transpose_words_plan s.line n)) ≡ false
IsBarred s (EditWord action) = is_within s (longest_by s.line (edit_word_plan s.line action)) ≡ false
IsBarred s (Indent m amount dedent) = is_within s (longest_by s.line (indent_plan s.line m amount dedent)) ≡ false
IsBarred s (Undo n) = is_within s (greatest_back_over (last_of n s.pair.changes.recorded) (length s.line.text)) ≡ false
IsBarred s Abandon = is_within s (greatest_back_over (open_group s.pair.changes.recorded) (length s.line.text)) ≡ false
IsBarred s Redo = is_within s (greatest_ahead_over (redo_of s.pair.changes.pending) (length s.line.text)) ≡ false
IsBarred s _ = ⊥

-- whether it bars a command, as the code asks; the same of a command with a text
abbrev pub Bars : Bool → State → Command → Type 0
Bars true s command = IsBarred s command
Bars false s command = ¬ (IsBarred s command)

abbrev pub BarsWith : List ℕ → (String Global → Command) → Bool → State → Type 0
BarsWith bytes make asked s = (text : String Global) → string_bytes text ≡ bytes → Bars asked s (make text)

-- an undo or a redo was done, or the limit barred it
abbrev pub DoesWithin : State → Command → Option (Result Bool Fault) → State → Type 0
DoesWithin old command result new =
    MatchOption result (IsBarred old command × (new ≡ old)) (λ done. ¬ (IsBarred old command) × Does old command (replied Answer done) new)

-- an undo takes no more units than were made in the group that was opened last and is open
abbrev pub within_group : Option ℕ → ℕ → ℕ
within_group None n = n
within_group (Some made) n = min (max n 1) made

-- how many those are; None if no group is open
abbrev pub made_in_group : State → Option ℕ
made_in_group s = units_in_group s.pair.changes.recorded

-- what is done of a command: an undo stays in its group
abbrev pub carried : State → Command → Command
carried s (Undo n) = Undo (within_group (made_in_group s) n)
carried s command = command

-- a group can't be taken up again: that would drop what was undone, which is to be kept
abbrev pub drops_kept : State → Bool
drops_kept s = s.options.keeps && has_change (redo_of s.pair.changes.pending)

-- nothing may be done for a command
abbrev pub IsStopped : State → Command → Type 0
IsStopped s Reopen = drops_kept s ≡ true
IsStopped s (Undo n) = (made_in_group s ≡ Some 0) ⊎ IsBarred s (carried s (Undo n))
IsStopped s command = IsBarred s command

-- a group is begun; or the groups that are ended, or the one that is abandoned, are empty
abbrev pub is_empty_group : List Entry → Command → Bool
is_empty_group es Begin = true
is_empty_group es End = not (adds_end (level es) es)
is_empty_group es EndOne = not (adds_end (min 1 (level es)) es)
is_empty_group es Abandon = is_open es && not (adds_end 1 es)
is_empty_group es _ = false

-- then what waits to be redone stays, unless it is to be kept
abbrev pub leaves_waiting : State → Command → Bool
leaves_waiting s command = is_empty_group s.pair.changes.recorded command && (not s.options.keeps && waits s.pair.changes.pending)

-- what is replied if nothing is done. Memory may be out for a Begin before what waits. Whether a word fits in another letter case is seen on a copy, for which memory may be out
abbrev pub Stops : State → Command → Reply → Type 0
Stops s Reopen (Answer false) = drops_kept s ≡ true
Stops s (Undo n) (Answer false) = made_in_group s ≡ Some 0
Stops s Begin (Refused NoMemory) = leaves_waiting s Begin ≡ true
Stops s (EditWord action) (Refused NoMemory) = unbegun a_copy (edit_word_plan s.line action)
Stops s command (Refused TooLong) = IsBarred s (carried s command)
Stops s _ _ = ⊥

-- the edits, and what begins or ends a group: before these what was undone is kept, if the options ask for that
abbrev pub is_edit_or_mark : Command → Bool
is_edit_or_mark (SetPos _) = false
is_edit_or_mark (Move _) = false
is_edit_or_mark (Copy _) = false
is_edit_or_mark (Keep _) = false
is_edit_or_mark Part = false
is_edit_or_mark Reopen = false
is_edit_or_mark Abandon = false
is_edit_or_mark KeepUndone = false
is_edit_or_mark (Undo _) = false
is_edit_or_mark Redo = false
is_edit_or_mark (Truncate _) = false
is_edit_or_mark LinePlace = false
is_edit_or_mark _ = true

-- whether that is to be done before a command
abbrev pub asks_to_keep : State → Command → Bool
asks_to_keep s command = is_edit_or_mark command && s.options.keeps

-- it is done by the command for it, if it is asked for; else nothing happens
abbrev pub Keeps : Bool → State → Reply → State → Type 0
Keeps false s reply kept = (reply ≡ Answer false) × (kept ≡ s)
Keeps true s reply kept = Step s KeepUndone reply kept

-- the same, and it was not refused
abbrev pub HasKept : Bool → State → State → Type 0
HasKept asked s kept = (said : Reply) × Keeps asked s said kept × ¬ (WasRefused said)

-- the commands of several steps: what one of them changes is one unit of undo, also if it was refused after some of its steps
abbrev pub is_one_unit : Command → Bool
is_one_unit (Update _ _) = true
is_one_unit YankPop = true
is_one_unit TransposeChars = true
is_one_unit (TransposeWords _) = true
is_one_unit (EditWord _) = true
is_one_unit (Indent _ _ _) = true
is_one_unit _ = false

-- how many bytes a change put in that the unit takes in: the yank that is replaced
abbrev pub put_in : State → Command → ℕ
put_in s YankPop = unwrap_or (yank_size s.pair.ring) 0
put_in s _ = 0

-- such a command joins nothing that was recorded before it
abbrev pub set_apart : State → Command → State
set_apart s command = if is_one_unit command then with_changes (parted s.pair.changes) s else s

-- what waited to be redone before a command still waits after it, if it leaves that
abbrev pub with_waiting : State → Command → State → State
with_waiting old command left = if leaves_waiting old command then with_changes (still_waiting left.pair.changes.recorded old.pair.changes) left else left

-- what was recorded since a unit began became one, if it is to be; without memory for its marks it stays as it is
abbrev pub Unites : Bool → UnitStart → State → State → Type 0
Unites false start left made = made ≡ left
Unites true start left made =
    (made ≡ with_changes (united start left.pair.changes) left) ⊎ ((makes_group start left.pair.changes ≡ true) × (made ≡ left))

-- a command was done: first what was undone was kept, if that was asked for; what waited still waits, if it is left; what it changed
-- became one unit; and at last what is beyond the bounds was forgotten
pub record Carried (old : State) (command : Command) (reply : Reply) (new : State) : Type 0 where
  pub free : ¬ (IsStopped old command)
  pub kept : State
  pub keeps : HasKept (asks_to_keep old command) old kept
  pub left : State
  pub step : Step (set_apart kept command) (carried old command) reply left
  pub made : State
  pub unites : Unites (is_one_unit command) (unit_start (put_in kept command) kept.pair.changes) (with_waiting old command left) made
  pub forgets : Forgets made new

-- a command was not begun, since what was undone could not be kept
abbrev pub Unkept : State → Command → Reply → State → Type 0
Unkept old command reply new = ¬ (IsStopped old command) × WasRefused reply × Keeps (asks_to_keep old command) old reply new

-- nothing was done; or it was not begun; or it was done
abbrev pub Obeyed : State → Command → Reply → State → Type 0
Obeyed old command reply new =
    (Stops old command reply × (new ≡ old)) ⊎ (Unkept old command reply new ⊎ Carried old command reply new)

-- what a command counts as: an indent by which no byte would go in or out, as a motion that leads nowhere
abbrev pub counted_as : State → Command → Command
counted_as s (Indent m amount dedent) = if indent_changes s.line m amount dedent then Indent m amount dedent else Move WholeBuffer
counted_as s command = command

-- from old, the command may have this reply and lead to new
abbrev pub Performed : State → Command → Reply → State → Type 0
Performed old command reply new = Obeyed old (counted_as old command) reply new

-- the same of a command with a text, whichever value of these bytes the text is
abbrev pub PerformedWith : List ℕ → (String Global → Command) → State → Reply → State → Type 0
PerformedWith bytes make old reply new = (text : String Global) → string_bytes text ≡ bytes → Performed old (make text) reply new

-- ---- commands that were performed, one after another
pub data Calls : State → State → Type 0 where
  no_call : {s : State} → Calls s s
  call : {old mid new : State} → (command : Command) → (reply : Reply) → Performed old command reply mid → Calls mid new → Calls old new

-- the row that keeps what was undone, if that was asked for
abbrev pub keeping : (asked : Bool) (old : State) (reply : Reply) (kept : State) → Keeps asked old reply kept → List Row
keeping false old reply kept keeps = []
keeping true old reply kept keeps = record { before = old; command = KeepUndone; reply = reply; after = kept; step = keeps } ∷ []

-- the rows of a command: none if nothing was done; else that which keeps what was undone, if that was asked for, and its own,
-- unless it was not begun
abbrev pub rows_in : {old : State} (command : Command) (reply : Reply) {new : State} → Obeyed old command reply new → List Row
rows_in command reply (inl stopped) = []
rows_in {old} command reply {new} (inr (inl unkept)) = keeping (asks_to_keep old command) old reply new unkept.2
rows_in {old} command reply (inr (inr done)) =
    keeping (asks_to_keep old command) old done.keeps.0 done.kept done.keeps.1
    ++ (record { before = set_apart done.kept command; command = carried old command; reply = reply; after = done.left; step = done.step } ∷ [])

abbrev pub rows_of : {old new : State} → Calls old new → List Row
rows_of no_call = []
rows_of (call {old} command reply performed calls) = rows_in (counted_as old command) reply performed ++ rows_of calls

-- what was replied to them
abbrev pub replies_in : {old new : State} → Calls old new → List Reply
replies_in no_call = []
replies_in (call command reply performed calls) = reply ∷ replies_in calls

-- all are kills that take text which touches the cursor, on the side of their direction
abbrev pub AllKilled : {old new : State} → Calls old new → Type 0
AllKilled no_call = Unit {0}
AllKilled (call {old} command reply performed calls) = IsDirectedKill old.line command × AllKilled calls

-- all may stand in a group, before whose begin so many groups were open
abbrev pub AllCallsStandInGroup : ℕ → {old new : State} → Calls old new → Type 0
AllCallsStandInGroup below no_call = Unit {0}
AllCallsStandInGroup below (call {mid = mid} command reply performed calls) =
    MayStandInGroup below (level mid.pair.changes.recorded) command reply × AllCallsStandInGroup below calls

-- none is a command of several steps, or leaves something that waits to be redone
abbrev pub NoneUnites : {old new : State} → Calls old new → Type 0
NoneUnites no_call = Unit {0}
NoneUnites (call {old} command reply performed calls) =
    (is_one_unit (counted_as old command) ≡ false) × (leaves_waiting old (counted_as old command) ≡ false) × NoneUnites calls

-- the record leads to the present text from one of the texts that were held, and is placed among those from there on
pub record HoldsFrom (held : List (List ℕ)) (s : State) : Type 0 where
  pub begin : List ℕ
  pub before : List (List ℕ)
  pub stands : StandsAfter before begin held
  pub holds : Holds begin (begin ∷ stands.rest) s

-- what ends or abandons the group that was opened last alone, where so many were open before its begin
abbrev pub EndsLast : ℕ → Command → Type 0
EndsLast below End = below ≡ 0
EndsLast below EndOne = Unit {0}
EndsLast below Abandon = Unit {0}
EndsLast below _ = ⊥

-- ---- what a command of several steps made
-- such a command was done on a session without a bound, and something was recorded, which became one unit
pub record MadeUnit (old : State) (command : Command) (reply : Reply) (new : State) : Type 0 where
  pub one : is_one_unit command ≡ true
  pub unbounded : old.options.bound ≡ no_bound
  pub done : Carried old command reply new
  pub recorded : length done.kept.pair.changes.recorded < length done.left.pair.changes.recorded
  pub marked : done.made ≡ with_changes (united (unit_start (put_in done.kept command) done.kept.pair.changes) done.left.pair.changes) done.left

-- the entries that stand before that unit
abbrev pub before_unit : {old new : State} {command : Command} {reply : Reply} → MadeUnit old command reply new → List Entry
before_unit {command = command} unit =
    let r = unit.done.kept.pair.changes in
    take (unit_start (put_in unit.done.kept command) r).from r.recorded
