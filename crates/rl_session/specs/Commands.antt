-- What each command does.
use Rattle.std.specs.Prelude.{◌≡◌, ℕ, ◌<◌, min, Bool, true, false, not, length, List, [], Any, Option, Some, None, Result, Ok, Err, ◌⊎◌, if◌then◌else◌, String}
use Rattle.std.specs.Option.{option_map}
use Rattle.std.specs.String.{string_bytes}
use Rattle.std.specs.Str.{IsCharBoundary}
use Rattle.std.specs.declared.alloc.Global.{Global}
use Rattle.rl_base.specs.declared.kill_ring.Mode.TheVariants.{Append}
use Rattle.rl_base.specs.declared.listeners.Refusal.TheVariants as why
use Rattle.rl_base.specs.KillRing.{reset, yank, yanked, yank_size, yank_pop, yank_popped, Enlarges, killed}
use Rattle.rl_base.specs.Lines.{line_number}
use Rattle.rl_base.specs.Text.{HasText}
use Rattle.rl_base.specs.Watch.{watch_step}
use Rattle.rl_base.specs.declared.motion.Movement.{Movement}
use Rattle.rl_base.specs.declared.motion.Movement.TheVariants.{BeginningOfLine, EndOfLine, BackwardWord, ForwardWord, ViCharSearch, BackwardChar, BeginningOfBuffer, EndOfBuffer}
use Rattle.rl_line.specs.LineRanges.{IsRange}
use Rattle.rl_line.specs.Line.{Line, NeedsRoom}
use Rattle.rl_line.specs.LineMotions.{columns_before}
use Rattle.rl_line.specs.Motions.{Moved, destination as destination_in}
use Rattle.rl_line.specs.Plan.{Step as PlanStep, Plan, nothing, Done, Halted, Takes, nothing_more, room_by_step, a_copy, refusal_of, unbegun, listener_after}
use Rattle.rl_line.specs.Edits.{CanInsertStr, CanYankPop, insert_plan, insert_str_plan, yank_plan, yank_pop_plan, update_plan, replace_plan, delete_range_plan}
use Rattle.rl_line.specs.Indents.{indent_plan}
use Rattle.rl_line.specs.Deletions.{copied, delete_plan, kill_plan, kill_range_plan, is_by_characters, Told}
use Rattle.rl_line.specs.LetterCase.{edit_word_plan}
use Rattle.rl_record.specs.Calls.{RecordCall, MayCome, after_call, keeps_undone, parts_next, puts_begin, puts_end, puts_ends, reopens, shortens}
use Rattle.rl_record.specs.Record.{Record, replays_to}
use Rattle.rl_line.specs.Transpositions.{transpose_chars_plan, transpose_words_plan}
use Rattle.rl_line.specs.Going.{steps_ahead, steps_back, texts_ahead, texts_back}
use Rattle.rl_record.specs.Undo.{Abandoned, CopiesBack, Undone, Redone}
use Rattle.rl_record.specs.Units.{adds_end, ends_in_end, last_of, level, open_group, redo_of, waits}
use Rattle.rl_session.specs.Options.{layout_of}
use Rattle.rl_session.specs.Pair.{pair_step, pair_refused}
use Rattle.rl_session.specs.declared.session.Command.{Command}
use Rattle.rl_session.specs.declared.session.Command.TheVariants.{SetPos, Move, Insert, Paste, Yank, YankPop, Update, InsertStr, Replace, DeleteRange, Delete, Backspace, KillLine, KillBuffer, DiscardLine, DiscardBuffer, DeletePrevWord, DeleteWord, DeleteTo, TransposeChars, TransposeWords, EditWord, Kill, Copy, Indent, Begin, End, EndOne, Undo, Redo, Truncate, LinePlace, KillRange, Keep, Part, Reopen, Abandon, KeepUndone}
use Rattle.rl_session.specs.declared.session.Fault.{Fault}
use Rattle.rl_session.specs.declared.session.Fault.TheVariants.{NoMemory, BadPlace, BadYankSize, NotReplaying}
use Rattle.rl_session.specs.declared.session.Reply.{Reply}
use Rattle.rl_session.specs.declared.session.Reply.TheVariants as says
use Rattle.rl_session.specs.State.{State, Follows, IsBounded, Stands, with_ring}

-- where a movement leads, if anywhere; over lines it counts columns from the prompt of the session's options
abbrev pub destination : State → Movement → Option ℕ
destination s movement = destination_in (layout_of s.options) s.line movement

-- a session with its cursor at a place
abbrev pub with_cursor : ℕ → State → State
with_cursor place s = record s { line = record s.line { cursor = place } }

-- what is asked of a session with its cursor at a place, if that is a boundary
abbrev pub AskedFrom : {A : Type 0} → ℕ → (State → Option A) → State → Result (Option A) Fault → Type 0
AskedFrom place asks s (Ok found) = IsCharBoundary s.line.text place × (found ≡ asks (with_cursor place s))
AskedFrom place asks s (Err why) = (¬ (IsCharBoundary s.line.text place)) × (why ≡ BadPlace)

-- where the cursor stands: the number of its line, from 0, and the columns from that line's start
abbrev pub line_place : State → ℕ × ℕ
line_place s = (line_number s.line.text s.line.cursor, columns_before (layout_of s.options) s.line.text s.line.cursor)

-- an edit was done
pub record Edited {A : Type 0} (plan : Plan A) (old new : State) (answer : A) : Type 0 where
  pub done : Done pair_step plan old.line new.line old.pair new.pair answer
  pub options : new.options ≡ old.options

-- an edit was refused, since memory is out, after its first steps
pub record CutShort {A : Type 0} (takes : Takes) (plan : Plan A) (old new : State) : Type 0 where
  pub halted : Halted pair_step (refusal_of pair_refused takes) plan old.line new.line old.pair new.pair why.NoMemory
  pub options : new.options ≡ old.options

-- a text that the ring lent is inserted n times, if it lent one
abbrev pub lent_plan : Line → Option (List ℕ) → ℕ → Plan (Option Bool)
lent_plan line None n = nothing line None
lent_plan line (Some s) n = yank_plan line s n

-- a text that the ring lent replaces the given number of bytes before the cursor, if it lent one
abbrev pub popped_plan : Line → Option (ℕ × List ℕ) → Plan (Option Bool)
popped_plan line None = nothing line None
popped_plan line (Some p) = yank_pop_plan line p.0 p.1

-- the given number of bytes, if one is given, can have been yanked last
abbrev pub StandsYanked : Option ℕ → Line → Type 0
StandsYanked None line = Unit {0}
StandsYanked (Some size) line = CanYankPop line size

-- the ring lent a text: that text is now current, and its length is kept
abbrev pub lent : State → State
lent s = with_ring (yanked s.pair.ring) s

-- the same with the text before it in the ring
abbrev pub popped : State → State
popped s = with_ring (yank_popped s.pair.ring) s

-- nothing but the line, the record and the watch changed
abbrev pub KeepsRing : State → State → Type 0
KeepsRing old new = new ≡ record old { line = new.line; pair = record old.pair { changes = new.pair.changes; watch = new.pair.watch } }

-- the watch heard of these steps, and of nothing else
abbrev pub WatchHears : List PlanStep → State → State → Type 0
WatchHears steps old new = new.pair.watch ≡ listener_after watch_step old.line.cursor steps old.pair.watch

-- the record was replaced by another, and nothing else changed
abbrev pub with_changes : Record → State → State
with_changes changes s = record s { pair = record s.pair { changes = changes } }

-- how one state becomes another by steps of an edit, or by none
pub data Course : Type 1 where
  -- this never comes; this comes only if a condition holds
  never : Course
  when : Type 0 → Course → Course
  -- nothing changed; only the cursor went to a place, if there is one
  stays : Course
  goes : Option ℕ → Bool → Course
  -- an edit was done; an edit was refused since memory is out: not begun, which comes only if a condition holds, or cut short
  edits : {A : Type 0} → Plan A → A → Course
  stops : {A : Type 0} → Type 0 → Takes → Plan A → Course
  -- the ring lent its text first, or the text before that one
  lends : Course → Course
  pops : Course → Course
  -- this was told between the start and the stop of a kill, except for a kill by characters
  tells : Bool → Course → Course

-- what each of them means
abbrev pub Came : Course → State → State → Type 0
Came never old new = ⊥
Came (when condition course) old new = condition × Came course old new
Came stays old new = new ≡ old
Came (goes place answer) old new = Moved place old.line new.line answer × (new ≡ record old { line = new.line })
Came (edits plan answer) old new = Edited plan old new answer
Came (stops unbegun takes plan) old new = (unbegun × (new ≡ old)) ⊎ CutShort takes plan old new
Came (lends course) old new = Came course (lent old) new
Came (pops course) old new = Came course (popped old) new
Came (tells by_characters course) old new =
    Told pair_step by_characters (λ before now. Came course (record old { pair = before }) (record new { pair = now })) old.pair new.pair

-- what a command did: a course by steps, a call of the record, if that answered so, or what one command alone does, with what it
-- answers
pub data Effect : Type 1 where
  by_steps : Course → Effect
  takes_back : ℕ → Bool → Effect
  puts_again : Bool → Effect
  keeps : List ℕ → Effect
  gives_up : Bool → Effect
  on_record : (answered : Type 0) → RecordCall → Effect

abbrev pub Became : Effect → State → State → Type 0
Became (by_steps course) old new = Came course old new
Became (takes_back n a) old new =
    Undone n old.pair.changes new.pair.changes old.line new.line a × KeepsRing old new × WatchHears (steps_back old.line.cursor (last_of n old.pair.changes.recorded)) old new
Became (puts_again a) old new =
    Redone old.pair.changes new.pair.changes old.line new.line a × KeepsRing old new × WatchHears (steps_ahead old.line.cursor (redo_of old.pair.changes.pending)) old new
Became (keeps text) old new = new ≡ with_ring (reset (killed text Append old.pair.ring)) old
Became (gives_up a) old new =
    Abandoned old.pair.changes new.pair.changes old.line new.line a × KeepsRing old new × WatchHears (steps_back old.line.cursor (open_group old.pair.changes.recorded)) old new
Became (on_record answered call) old new =
    (answered × MayCome call old.pair.changes old.line.text) × (new ≡ with_changes (after_call call old.pair.changes) old)

-- how a reply tells the answer of an edit
pub data Telling : Type 0 → Type 1 where
  answers : Telling Bool
  inserts : Telling (Option Bool)
  hands_out : Telling (Option (List ℕ))
  is_done : Telling (Unit {0})

-- the course that comes with an answer, if the reply tells one
abbrev pub told_as : {A : Type 0} → Telling A → (A → Course) → Reply → Course
told_as answers course (says.Answer a) = course a
told_as inserts course (says.Inserted a) = course a
told_as hands_out course (says.Text t) = course (option_map string_bytes t)
told_as is_done course says.Done = course tt
told_as _ course _ = never

-- what a command asks for: an edit, with the memory that it takes, a condition on its places, its plan, and how a reply
-- tells its answer; or something else
pub data Asked : Type 1 where
  edit : {A : Type 0} → (takes : Takes) → (condition : Type 0) → (plan : Plan A) → (telling : Telling A) → Asked
  other : Asked

abbrev pub asked : Line → Command → Asked
asked line (Insert c n) = edit room_by_step (Unit {0}) (insert_plan line c n) inserts
asked line (Paste s n) = edit room_by_step (Unit {0}) (yank_plan line (string_bytes s) n) inserts
asked line (Update s q) = edit room_by_step (IsCharBoundary (string_bytes s) q) (update_plan line (string_bytes s) q) is_done
asked line (InsertStr i s) = edit room_by_step (CanInsertStr line i (string_bytes s)) (insert_str_plan line i (string_bytes s)) answers
asked line (Replace i j s) = edit room_by_step (IsRange line.text i j) (replace_plan line i j (string_bytes s)) is_done
asked line (DeleteRange i j) = edit nothing_more (IsRange line.text i j) (delete_range_plan line i j) is_done
asked line (Delete n) = edit a_copy (Unit {0}) (delete_plan line n) hands_out
asked line (Backspace n) = edit nothing_more (Unit {0}) (kill_plan line (BackwardChar n)) answers
asked line KillLine = edit nothing_more (Unit {0}) (kill_plan line EndOfLine) answers
asked line KillBuffer = edit nothing_more (Unit {0}) (kill_plan line EndOfBuffer) answers
asked line DiscardLine = edit nothing_more (Unit {0}) (kill_plan line BeginningOfLine) answers
asked line DiscardBuffer = edit nothing_more (Unit {0}) (kill_plan line BeginningOfBuffer) answers
asked line (DeletePrevWord word n) = edit nothing_more (Unit {0}) (kill_plan line (BackwardWord n word)) answers
asked line (DeleteWord at word n) = edit nothing_more (Unit {0}) (kill_plan line (ForwardWord n at word)) answers
asked line (DeleteTo cs n) = edit nothing_more (Unit {0}) (kill_plan line (ViCharSearch n cs)) answers
asked line TransposeChars = edit a_copy (Unit {0}) (transpose_chars_plan line) answers
asked line (TransposeWords n) = edit a_copy (Unit {0}) (transpose_words_plan line n) answers
asked line (EditWord action) = edit a_copy (Unit {0}) (edit_word_plan line action) answers
asked line (Indent m amount dedent) = edit room_by_step (Unit {0}) (indent_plan line m amount dedent) answers
asked line _ = other

-- an edit: refused if its condition fails; otherwise done, or stopped since memory is out
abbrev pub edit_course : {A : Type 0} → Takes → Type 0 → Plan A → Telling A → Reply → Course
edit_course takes condition plan telling (says.Refused BadPlace) = when (¬ condition) stays
edit_course takes condition plan telling (says.Refused NoMemory) = when condition (stops (unbegun takes plan) takes plan)
edit_course takes condition plan telling reply = when condition (told_as telling (edits plan) reply)

-- Commands that are no edit of the table. A command is not refused if it needs no room, since there is nothing to copy,
-- to close or to make longer.
abbrev pub other_course : State → Command → Reply → Course
other_course old (SetPos q) says.Done = when (IsCharBoundary old.line.text q) (goes (Some q) true)
other_course old (SetPos q) (says.Refused BadPlace) = when (¬ (IsCharBoundary old.line.text q)) stays
other_course old (Move m) (says.Answer a) = goes (destination old m) a
other_course old (Copy m) (says.Text t) = when (option_map string_bytes t ≡ copied old.line m) stays
other_course old (Copy m) (says.Refused NoMemory) = when (HasText (copied old.line m)) stays
other_course old (Kill m) (says.Answer a) = tells (is_by_characters m) (edits (kill_plan old.line m) a)
other_course old (Kill m) (says.Refused NoMemory) = tells (is_by_characters m) (stops ⊥ nothing_more (kill_plan old.line m))
other_course old (KillRange i j side) (says.Answer a) = when (IsRange old.line.text i j) (tells false (edits (kill_range_plan old.line i j side) a))
other_course old (KillRange i j side) (says.Refused BadPlace) = when (¬ (IsRange old.line.text i j)) stays
other_course old (KillRange i j side) (says.Refused NoMemory) =
    when (IsRange old.line.text i j) (tells false (stops ⊥ nothing_more (kill_range_plan old.line i j side)))
other_course old (Keep t) (says.Refused NoMemory) = when (Enlarges (string_bytes t) Append old.pair.ring) stays
other_course old (Yank n) (says.Inserted a) = lends (edits (lent_plan old.line (yank old.pair.ring) n) a)
other_course old (Yank n) (says.Refused NoMemory) =
    lends (stops ⊥ room_by_step (lent_plan old.line (yank old.pair.ring) n))
other_course old YankPop (says.Inserted a) =
    when (StandsYanked (yank_size old.pair.ring) old.line) (pops (edits (popped_plan old.line (yank_pop old.pair.ring)) a))
other_course old YankPop (says.Refused BadYankSize) = when (¬ (StandsYanked (yank_size old.pair.ring) old.line)) stays
other_course old YankPop (says.Refused NoMemory) =
    when (StandsYanked (yank_size old.pair.ring) old.line)
    (pops (stops ⊥ room_by_step (popped_plan old.line (yank_pop old.pair.ring))))
other_course old Begin (says.Refused NoMemory) = when (old.pair.changes.pending ≡ []) stays
other_course old End (says.Refused NoMemory) = when (adds_end (level old.pair.changes.recorded) old.pair.changes.recorded ≡ true) stays
other_course old EndOne (says.Refused NoMemory) =
    when (adds_end (min 1 (level old.pair.changes.recorded)) old.pair.changes.recorded ≡ true) stays
other_course old (Undo n) (says.Refused NoMemory) =
    when (Any (NeedsRoom old.line.text) (texts_back (last_of n old.pair.changes.recorded) old.line.text)) stays
other_course old Abandon (says.Refused NoMemory) =
    when (Any (NeedsRoom old.line.text) (texts_back (open_group old.pair.changes.recorded) old.line.text)) stays
other_course old KeepUndone (says.Refused NoMemory) = when (waits old.pair.changes.pending ≡ true) stays
other_course old Redo (says.Refused NoMemory) =
    when (Any (NeedsRoom old.line.text) (texts_ahead (redo_of old.pair.changes.pending) old.line.text)) stays
other_course old (Truncate len) (says.Refused NotReplaying) = when (replays_to len old.pair.changes old.line.text ≡ false) stays
other_course old (Truncate len) (says.Refused NoMemory) =
    when ((len < length old.pair.changes.recorded) × CopiesBack old.pair.changes.recorded old.line.text) stays
other_course old LinePlace (says.At k columns) = when ((k, columns) ≡ line_place old) stays
-- no other reply comes
other_course _ _ _ = never

-- by which course the state becomes another, if it goes by steps
abbrev pub course_of : Asked → State → Command → Reply → Course
course_of (edit takes condition plan telling) old command reply = edit_course takes condition plan telling reply
course_of other old command reply = other_course old command reply

-- what a command did that had this reply
abbrev pub effect : State → Command → Reply → Effect
effect old Begin (says.Mark n) = on_record (n ≡ length old.pair.changes.recorded) puts_begin
effect old End (says.Answer a) = on_record (a ≡ adds_end (level old.pair.changes.recorded) old.pair.changes.recorded) puts_ends
effect old EndOne (says.Answer a) = on_record (a ≡ adds_end (min 1 (level old.pair.changes.recorded)) old.pair.changes.recorded) puts_end
effect old (Truncate len) says.Done = on_record (Unit {0}) (shortens len)
effect old (Undo n) (says.Answer a) = takes_back n a
effect old Redo (says.Answer a) = puts_again a
effect old (Keep t) says.Done = keeps (string_bytes t)
effect old Part says.Done = on_record (Unit {0}) parts_next
effect old Reopen (says.Answer a) = on_record (a ≡ ends_in_end old.pair.changes.recorded) reopens
effect old Abandon (says.Answer a) = gives_up a
effect old KeepUndone (says.Answer a) = on_record (a ≡ waits old.pair.changes.pending) keeps_undone
effect old command reply = by_steps (course_of (asked old.line command) old command reply)

-- from old, the command may have this reply and lead to new, the ring's resets aside
abbrev pub Does : State → Command → Reply → State → Type 0
Does old command reply new = Became (effect old command reply) old new

-- the commands before which the ring is not reset: they go on from what it did last, or leave it
abbrev pub continues : Command → Bool
continues (Kill m) = not (is_by_characters m)
continues (KillRange _ _ _) = true
continues (Yank _) = true
continues YankPop = true
continues KeepUndone = true
continues _ = false

-- the state in which a command begins
abbrev pub readied : Command → State → State
readied command s = with_ring (if continues command then s.pair.ring else reset s.pair.ring) s

-- whether it is a yank whose reply is not Inserted (Some _)
abbrev pub is_vain_yank : Command → Reply → Bool
is_vain_yank (Yank _) (says.Inserted (Some _)) = false
is_vain_yank YankPop (says.Inserted (Some _)) = false
is_vain_yank (Yank _) _ = true
is_vain_yank YankPop _ = true
is_vain_yank _ _ = false

-- the state in which a command ends: the ring is reset after a vain yank
abbrev pub settled : Command → Reply → State → State
settled command reply s = with_ring (if is_vain_yank command reply then reset s.pair.ring else s.pair.ring) s

-- from old, the command may have this reply and lead to new
pub record Step (old : State) (command : Command) (reply : Reply) (new : State) : Type 0 where
  pub left : State
  pub does : Does (readied command old) command reply left
  pub settles : new ≡ settled command reply left
  pub stands : Stands new
  pub bounded : IsBounded new
  pub follows : Follows new.line new.pair.changes

-- the same of a command with a text, whichever value of these bytes the text is
abbrev pub DoesWith : List ℕ → (String Global → Command) → State → Reply → State → Type 0
DoesWith bytes make old reply new = (text : String Global) → string_bytes text ≡ bytes → Does old (make text) reply new

-- the command that deletes by a movement to one side of the cursor; other movements have none
abbrev pub deletion_of : Movement → Command
deletion_of BeginningOfLine = DiscardLine
deletion_of (BackwardWord n word) = DeletePrevWord word n
deletion_of (ForwardWord n at word) = DeleteWord at word n
deletion_of (ViCharSearch n cs) = DeleteTo cs n
deletion_of BeginningOfBuffer = DiscardBuffer
deletion_of EndOfBuffer = KillBuffer
deletion_of _ = KillLine
