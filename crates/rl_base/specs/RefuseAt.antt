-- A listener for tests, which hears a given number of changes of a text and refuses the next.
use Rattle.std.specs.Prelude.{◌≡◌, ℕ, zero, suc, ◌+◌, ◌<◌, List, [], ◌∷◌, ◌++◌, Option, Some, None, min}
use Rattle.std.specs.String.{string_bytes}
use Rattle.rl_base.specs.declared.testing.TextEvent.{TextEvent}
use Rattle.rl_base.specs.declared.testing.TextEvent.TheVariants as seen_as
use Rattle.rl_base.specs.declared.listeners.Refusal.{Refusal}
use Rattle.rl_base.specs.declared.listeners.Refusal.TheVariants as why_of
use Rattle.rl_base.specs.Event.{Event, InsertChar, InsertStr, Delete, Replace, Start, Stop, Cursors}

-- how many more changes it will hear, always Some number; those that it heard, the first one first; and how many
-- kills started and stopped
pub record Hearing : Type 0 where
  pub left : Option ℕ
  pub seen : List Event
  pub starts : ℕ
  pub stops : ℕ

-- the event that a listed one stands for
abbrev pub event_of : TextEvent → Event
event_of (seen_as.InsertChar i c) = InsertChar i c
event_of (seen_as.InsertStr i s) = InsertStr i (string_bytes s)
event_of (seen_as.Delete i s side) = Delete i (string_bytes s) side
event_of (seen_as.Replace i s t) = Replace i (string_bytes s) (string_bytes t)

-- one that has heard nothing yet
abbrev pub new_hearing : ℕ → Hearing
new_hearing left = record { left = Some left; seen = []; starts = 0; stops = 0 }

-- one more start or stop of a kill; no count goes past the greatest u16
abbrev pub counted : ℕ → ℕ
counted n = min (n + 1) 65535

-- one change less to hear. Where none is left it gives None, which no listener has, so that no listener hears a change there
abbrev pub one_less : Option ℕ → Option ℕ
one_less (Some (suc left)) = Some left
one_less (Some zero) = None
one_less None = None

-- the listener with one more change listed, and one less to hear
abbrev pub listed : Event → Hearing → Hearing
listed event h = record h { left = one_less h.left; seen = h.seen ++ event ∷ [] }

-- the listener after an event
abbrev pub hearing_step : Hearing → Event → Hearing
hearing_step h (InsertChar i c) = listed (InsertChar i c) h
hearing_step h (InsertStr i s) = listed (InsertStr i s) h
hearing_step h (Delete i s side) = listed (Delete i s side) h
hearing_step h (Replace i s t) = listed (Replace i s t) h
hearing_step h Start = record h { starts = counted h.starts }
hearing_step h Stop = record h { stops = counted h.stops }
hearing_step h (Cursors _ _) = h

-- why it refuses: by itself exactly if it will hear no more changes, and else since memory is out
abbrev pub Refuses : Option ℕ → Refusal → Type 0
Refuses (Some left) why_of.Listener = left ≡ 0
Refuses (Some left) why_of.NoMemory = 0 < left
Refuses None _ = ⊥

-- a refusal of a change, which leaves it as it was
abbrev pub hearing_refused : Hearing → Event → Refusal → Hearing → Type 0
hearing_refused old _ why now = Refuses old.left why × (now ≡ old)
