-- A queue of reports of changes, for who reads late.
use Rattle.std.specs.Prelude.{◌≡◌, ℕ, ◌+◌, ◌-◌, ◌^◌, ◌<◌, ◌≤◌, ◌==◌, ◌&&◌, ◌⊎◌, Bool, true, false, min, nat_le, nat_lt, List, [], ◌∷◌, ◌++◌, length, take, drop, fold, map, slice_range, encode_utf8, Option, Some, None, OnSome, if◌then◌else◌}
use Rattle.std.specs.Bool.{OnFalse, OnTrue}
use Rattle.std.specs.List.{replace_range}
use Rattle.std.specs.Str.{IsCharBoundary, IsUtf8}
use Rattle.rl_base.specs.declared.splice.Splice.{Splice}
use Rattle.rl_base.specs.declared.reports.Joined.{Joined}
use Rattle.rl_base.specs.declared.reports.Report.{Report}
use Rattle.rl_base.specs.declared.reports.ReportKind.{ReportKind}
use Rattle.rl_base.specs.declared.reports.ReportKind.TheVariants as kind
use Rattle.rl_base.specs.Event.{Event, InsertChar, InsertStr, Delete, Replace, Start, Stop, Cursors}
use Rattle.rl_base.specs.declared.listeners.Direction.TheVariants.{Forward, Backward}
use Rattle.rl_base.specs.Splice.{Covers, Splices, folded, untouched}

-- a report and its texts: what went, and then what came; empty if texts aren't kept
pub record Noted : Type 0 where
  pub report : Report
  pub texts : List ℕ

-- what waits: reports, the oldest first, or all as one, which has the first cursor before and the last one after
pub data Waiting : Type 0 where
  Whole : (notes : List Noted) → Waiting
  AsOne : (all : Joined) → Waiting

-- room for so many reports and for so many bytes of their texts, of which none are kept if that is 0; what waits; and the
-- texts of the report that was taken last, until there is another
pub record Queue : Type 0 where
  pub room : ℕ
  pub text_room : ℕ
  pub waiting : Waiting
  pub taken : List ℕ

-- nothing waits; without texts there is room for one report, so that what came is always in the present text
abbrev pub new_queue : ℕ → ℕ → Queue
new_queue room text_room = record { room = if text_room == 0 then min room 1 else room; text_room = text_room; waiting = Whole []; taken = [] }

-- a report of this kind is of a change of the text; the other two are marks
abbrev pub is_change : ReportKind → Bool
is_change kind.CharInserted = true
is_change kind.TextInserted = true
is_change kind.DeletedForward = true
is_change kind.DeletedBackward = true
is_change kind.Replaced = true
is_change kind.KillStarted = false
is_change kind.KillStopped = false
is_change kind.Folded = true

-- texts, if they are kept
abbrev pub kept : ℕ → List ℕ → List ℕ
kept text_room texts = if text_room == 0 then [] else texts

-- at a place what went gave way to what came
abbrev pub noted : ℕ → ReportKind → ℕ → List ℕ → List ℕ → Noted
noted text_room kind place gone come =
    record {
      report = record { kind = kind; at = place; old_len = length gone; new_len = length come; cursors = None };
      texts = kept text_room (gone ++ come);
    }

-- two pairs of cursors as one: the first before, and the last after
abbrev pub joined_cursors : Option (ℕ × ℕ) → Option (ℕ × ℕ) → Option (ℕ × ℕ)
joined_cursors None later = later
joined_cursors (Some first) None = Some first
joined_cursors (Some first) (Some later) = Some (first.0, later.1)

-- nothing as one
abbrev pub nothing_joined : Joined
nothing_joined = record { splice = untouched; cursors = None }

-- a report taken in: a mark leaves the splice
abbrev pub taken_in : Joined → Report → Joined
taken_in all r =
    record {
      splice = if is_change r.kind then folded all.splice r.at r.old_len r.new_len else all.splice;
      cursors = joined_cursors all.cursors r.cursors;
    }

-- reports as one
abbrev pub joined : List Report → Joined
joined rs = fold taken_in nothing_joined rs

-- the reports of notes
abbrev pub reports_of : List Noted → List Report
reports_of ns = map (λ n. n.report) ns

-- how many bytes the texts of notes have
abbrev pub text_bytes : List Noted → ℕ
text_bytes [] = 0
text_bytes (n ∷ ns) = length n.texts + text_bytes ns

-- what waits as one
abbrev pub as_one : Waiting → Joined
as_one (Whole ns) = joined (reports_of ns)
as_one (AsOne all) = all

-- how many reports wait
abbrev pub count_of : Waiting → ℕ
count_of (Whole ns) = length ns
count_of (AsOne all) = 1

-- there is room for one more report, with so many bytes of texts: never while all is one
abbrev pub has_room_in : ℕ → ℕ → ℕ → Waiting → Bool
has_room_in room text_room bytes (Whole ns) = nat_lt (length ns) room && nat_le (text_bytes ns + bytes) text_room
has_room_in room text_room bytes (AsOne all) = false

-- what waits, with one more note: at its end if there is room, and else all as one
abbrev pub with_note : ℕ → ℕ → Noted → Waiting → Waiting
with_note room text_room n (Whole ns) =
    if has_room_in room text_room (length n.texts) (Whole ns) then Whole (ns ++ n ∷ []) else AsOne (taken_in (as_one (Whole ns)) n.report)
with_note room text_room n (AsOne all) = AsOne (taken_in all n.report)

-- a report of a change, with the cursors that were told after it
abbrev pub told_cursors : ℕ → ℕ → Report → Report
told_cursors before after r = if is_change r.kind then record r { cursors = Some (before, after) } else r

-- the same of a note
abbrev pub told_note : ℕ → ℕ → Noted → Noted
told_note before after n = record { report = told_cursors before after n.report; texts = n.texts }

-- a list with its last element changed
abbrev pub on_last : {A : Type 0} → (A → A) → List A → List A
on_last f [] = []
on_last f (x ∷ []) = f x ∷ []
on_last f (x ∷ (y ∷ ys)) = x ∷ on_last f (y ∷ ys)

-- what waits, once cursors were told
abbrev pub with_cursors : ℕ → ℕ → Waiting → Waiting
with_cursors before after (Whole ns) = Whole (on_last (told_note before after) ns)
with_cursors before after (AsOne all) =
    AsOne (record { splice = all.splice; cursors = joined_cursors all.cursors (Some (before, after)) })

-- the queue with one more note
abbrev pub queue_with : Noted → Queue → Queue
queue_with n q = record q { waiting = with_note q.room q.text_room n q.waiting; taken = [] }

-- the queue once it was noted that at a place what went gave way to what came
abbrev pub noting : ReportKind → ℕ → List ℕ → List ℕ → Queue → Queue
noting kind place gone come q = queue_with (noted q.text_room kind place gone come) q

-- the queue after an event
abbrev pub queue_step : Queue → Event → Queue
queue_step q (InsertChar i c) = noting kind.CharInserted i [] (encode_utf8 c) q
queue_step q (InsertStr i s) = noting kind.TextInserted i [] s q
queue_step q (Delete i s Forward) = noting kind.DeletedForward i s [] q
queue_step q (Delete i s Backward) = noting kind.DeletedBackward i s [] q
queue_step q (Replace i s t) = noting kind.Replaced i s t q
queue_step q Start = noting kind.KillStarted 0 [] [] q
queue_step q Stop = noting kind.KillStopped 0 [] [] q
queue_step q (Cursors b a) = record q { waiting = with_cursors b a q.waiting }

-- where a splice begins, also one of nothing
abbrev pub place_of : Splice → ℕ
place_of s = min s.from s.old_end

-- all as one report
abbrev pub told_whole : Joined → Report
told_whole all =
    record {
      kind = kind.Folded;
      at = place_of all.splice;
      old_len = all.splice.old_end - place_of all.splice;
      new_len = all.splice.new_end - place_of all.splice;
      cursors = all.cursors;
    }

-- the oldest of what waits
abbrev pub oldest : Waiting → Option Noted
oldest (Whole []) = None
oldest (Whole (n ∷ ns)) = Some n
oldest (AsOne all) = Some (record { report = told_whole all; texts = [] })

-- what waits without its oldest
abbrev pub without_oldest : Waiting → Waiting
without_oldest (Whole ns) = Whole (drop 1 ns)
without_oldest (AsOne all) = Whole []

-- the texts of a note, if there is one
abbrev pub texts_of : Option Noted → List ℕ
texts_of None = []
texts_of (Some n) = n.texts

-- the queue once its oldest was taken
abbrev pub past_oldest : Queue → Queue
past_oldest q = record q { waiting = without_oldest q.waiting; taken = texts_of (oldest q.waiting) }

-- an event changes a text: it is no start or stop of a kill, and no telling of cursors
abbrev pub IsChange : Event → Type 0
IsChange Start = ⊥
IsChange Stop = ⊥
IsChange (Cursors _ _) = ⊥
IsChange _ = Unit {0}

-- a text that a line may hold
pub record IsLineText (text : List ℕ) : Type 0 where
  pub utf8 : IsUtf8 text
  pub fits : length text < 2 ^ 64

-- the splice that a report tells
abbrev pub splice_of : Report → Splice
splice_of r = record { from = r.at; old_end = r.at + r.old_len; new_end = r.at + r.new_len }

-- a report that waits apart tells how a text became another: by a splice, with what went and what came if texts are kept. A
-- mark leaves the text, and none was folded
pub record Tells (text_room : ℕ) (n : Noted) (old new : List ℕ) : Type 0 where
  pub splices : Splices (splice_of n.report) old new
  pub texts_are : n.texts ≡ kept text_room (slice_range old n.report.at (n.report.at + n.report.old_len) ++ slice_range new n.report.at (n.report.at + n.report.new_len))
  pub mark : OnFalse (is_change n.report.kind) (new ≡ old)
  pub apart : ¬ (n.report.kind ≡ kind.Folded)

-- cursors that were told stand between two characters, the first in the text before and the second in that after; if none
-- were, the text is as it was
abbrev pub Stand : Option (ℕ × ℕ) → List ℕ → List ℕ → Type 0
Stand None old new = new ≡ old
Stand (Some cursors) old new = IsCharBoundary old cursors.0 × IsCharBoundary new cursors.1

-- notes lead from a text to another, one by one; with `placed`, their cursors stand there too
abbrev pub LeadsBy : Bool → ℕ → List Noted → List ℕ → List ℕ → Type 0
LeadsBy placed text_room [] old new = new ≡ old
LeadsBy placed text_room (n ∷ ns) old new =
    (between : List ℕ) × Tells text_room n old between × IsLineText between × OnTrue placed (Stand n.report.cursors old between)
    × LeadsBy placed text_room ns between new

-- what waits leads from a text to another
abbrev pub WaitLeads : Bool → ℕ → Waiting → List ℕ → List ℕ → Type 0
WaitLeads placed text_room (Whole ns) old new = LeadsBy placed text_room ns old new
WaitLeads placed text_room (AsOne all) old new = Covers all.splice old new × OnTrue placed (Stand all.cursors old new)

-- how many reports wait apart
abbrev pub apart : Waiting → ℕ
apart (Whole ns) = length ns
apart (AsOne all) = 0

-- what waits in a queue leads from a text to another, and keeps to the room, which without texts is that of one report
pub record Leads (placed : Bool) (q : Queue) (old new : List ℕ) : Type 0 where
  pub leads : WaitLeads placed q.text_room q.waiting old new
  pub within : apart q.waiting ≤ q.room
  pub one : q.text_room ≡ 0 → q.room ≤ 1

-- a text after a report: what went gave way to the end of its texts
abbrev pub after_texts : Noted → List ℕ → List ℕ
after_texts n text = replace_range text n.report.at (n.report.at + n.report.old_len) (drop n.report.old_len n.texts)

-- and without texts: it gave way to what stands at the place of what came in the present text
abbrev pub after_numbers : Report → List ℕ → List ℕ → List ℕ
after_numbers r present text = replace_range text r.at (r.at + r.old_len) (slice_range present r.at (r.at + r.new_len))

-- a note tells by its texts how a text goes on: they begin with what stood there, and end with as many bytes as came
pub record TellsByTexts (n : Noted) (old : List ℕ) : Type 0 where
  pub went : take n.report.old_len n.texts ≡ slice_range old n.report.at (n.report.at + n.report.old_len)
  pub came : length (drop n.report.old_len n.texts) ≡ n.report.new_len
  pub mark : OnFalse (is_change n.report.kind) (after_texts n old ≡ old)

-- texts are kept of a report, which was not folded; they are not
pub record HasTexts (text_room : ℕ) (r : Report) : Type 0 where
  pub kept : 0 < text_room
  pub apart : ¬ (r.kind ≡ kind.Folded)

abbrev pub LacksTexts : ℕ → Report → Type 0
LacksTexts text_room r = (text_room ≡ 0) ⊎ (r.kind ≡ kind.Folded)

-- the oldest note, which has texts, tells how a text goes on, and what is left leads on from there
pub record ReadsTexts (placed : Bool) (q : Queue) (n : Noted) (old new : List ℕ) : Type 0 where
  pub text : IsLineText (after_texts n old)
  pub tells : TellsByTexts n old
  pub cursors : OnTrue placed (Stand n.report.cursors old (after_texts n old))
  pub rest : Leads placed (past_oldest q) (after_texts n old) new

-- the oldest note, which has no texts, is all that waits: what came stands in the present text, which it leads to
pub record ReadsWhole (placed : Bool) (q : Queue) (n : Noted) (old new : List ℕ) : Type 0 where
  pub all : oldest (past_oldest q).waiting ≡ None
  pub tells : after_numbers n.report new old ≡ new
  pub cursors : OnTrue placed (Stand n.report.cursors old new)
  pub rest : Leads placed (past_oldest q) new new

-- all as one if it was folded, and else the notes
abbrev pub waiting_of : Option Joined → List Noted → Waiting
waiting_of None ns = Whole ns
waiting_of (Some all) ns = AsOne all

-- what waits has room, for which there is memory, twice for its texts, and is either reports or all as one
pub record IsQueue (room text_room memory text_memory : ℕ) (ns : List Noted) (whole : Option Joined) : Type 0 where
  pub within : length ns ≤ room
  pub text_within : text_bytes ns ≤ text_room
  pub places : room ≤ memory
  pub bytes : text_room + text_room ≤ text_memory
  pub either : OnSome whole (ns ≡ [])
