-- What an edit does: its steps, each one event and the cursor after it, the cursor at the end, and its answer.
use Rattle.rl_base.specs.Event.{Cursors, Delete, Event, InsertChar, InsertStr, Replace, replay}
use Rattle.rl_base.specs.declared.listeners.Refusal.{Refusal}
use Rattle.rl_base.specs.declared.listeners.Refusal.TheVariants.{NoMemory}
use Rattle.rl_line.specs.Line.{Line, NeedsRoom, after_step}
use Rattle.std.specs.Prelude.{List, MatchResult, Option, Result, Some, [], encode_utf8, length, map, max, option_and_then, ℕ, ◌++◌, ◌+◌, ◌-◌, ◌<◌, ◌∷◌, ◌≡◌, ◌⊎◌}

-- an event, and the cursor after it
abbrev pub Step : Type 0
Step = Event × ℕ

pub record Plan (A : Type 0) : Type 0 where
  pub steps : List Step
  pub cursor : ℕ
  pub answer : A

-- the events of steps
abbrev pub events_of : List Step → List Event
events_of steps = map (λ (s : Step). s.0) steps

-- the events of the steps, replayed on the old text, give the new one
abbrev pub AreReplay : List Step → Line → Line → Type 0
AreReplay steps old new = replay (events_of steps) old.text ≡ Some new.text

-- no step
abbrev pub nothing : {A : Type 0} → Line → A → Plan A
nothing line answer = record { steps = []; cursor = line.cursor; answer = answer }

-- one step, which leaves the cursor at its place
abbrev pub of_step : {A : Type 0} → Step → A → Plan A
of_step s answer = record { steps = s ∷ []; cursor = s.1; answer = answer }

abbrev pub single : {A : Type 0} → Event → ℕ → A → Plan A
single event cursor answer = of_step (event, cursor) answer

-- a step, and then a plan
abbrev pub followed_by : {A : Type 0} → Event → ℕ → Plan A → Plan A
followed_by event cursor plan = record plan { steps = (event, cursor) ∷ plan.steps }

-- steps, and then a plan
abbrev pub after_steps : {A : Type 0} → List Step → Plan A → Plan A
after_steps steps plan = record plan { steps = steps ++ plan.steps }

-- the same steps, with another answer
abbrev pub answering : {A B : Type 0} → B → Plan A → Plan B
answering answer plan = record { steps = plan.steps; cursor = plan.cursor; answer = answer }

-- the line after the steps, if each event fits its text and the cursor stands between two characters after it
abbrev pub after : List Step → Line → Option Line
after [] line = Some line
after (s ∷ ss) line = option_and_then (after ss) (after_step s.0 s.1 line)

-- an event for which the text or its table needs room: it puts something in, or makes the text longer
abbrev pub Grows : Event → Type 0
Grows (InsertChar i c) = Unit {0}
Grows (InsertStr i s) = 0 < length s
Grows (Replace i s t) = NeedsRoom s t
Grows _ = ⊥

-- the refusals of a listener, and NoMemory for an event that grows, of which the listener hears nothing
abbrev pub or_no_memory : {L : Type 0} → (L → Event → Refusal → L → Type 0) → L → Event → Refusal → L → Type 0
or_no_memory refused before event r now = ((r ≡ NoMemory) × (now ≡ before) × Grows event) ⊎ refused before event r now

-- what memory an edit takes besides its listener: none; at each step the room that the step needs; or, before its first step,
-- the room for a copy of what it moves or hands out
pub data Takes : Type 0 where
  nothing_more : Takes
  room_by_step : Takes
  a_copy : Takes

-- how the steps of an edit may be refused, with the refusals of its listener
abbrev pub refusal_of : {L : Type 0} → (L → Event → Refusal → L → Type 0) → Takes → L → Event → Refusal → L → Type 0
refusal_of refused nothing_more = refused
refusal_of refused room_by_step = or_no_memory refused
refusal_of refused a_copy = refused

-- a listener that refuses nothing
abbrev pub NeverRefuses : {L : Type 0} → (L → Event → Refusal → L → Type 0) → Type 0
NeverRefuses {L} refused = (before : L) (event : Event) (r : Refusal) (now : L) → refused before event r now → ⊥

-- how many bytes an event tells
abbrev pub bytes_told : Event → ℕ
bytes_told (InsertChar i c) = length (encode_utf8 c)
bytes_told (InsertStr i s) = length s
bytes_told (Delete i s side) = length s
bytes_told (Replace i s t) = length s + length t
bytes_told _ = 0

-- how many bytes the steps tell
abbrev pub bytes_of : List Step → ℕ
bytes_of [] = 0
bytes_of (s ∷ ss) = bytes_told s.0 + bytes_of ss

-- how long a text of n bytes is after an event
abbrev pub resized : Event → ℕ → ℕ
resized (InsertChar i c) n = n + length (encode_utf8 c)
resized (InsertStr i s) n = n + length s
resized (Delete i s side) n = n - length s
resized (Replace i s t) n = (n - length s) + length t
resized _ n = n

-- how long it is at most on the way over steps
abbrev pub longest : List Step → ℕ → ℕ
longest [] n = n
longest (s ∷ ss) n = max n (longest ss (resized s.0 n))

-- how long the text of a line is at most on the way over the steps of a plan
abbrev pub longest_by : {A : Type 0} → Line → Plan A → ℕ
longest_by line plan = longest plan.steps (length line.text)

-- an edit may not have begun: there is something of which it makes a copy
abbrev pub unbegun : {A : Type 0} → Takes → Plan A → Type 0
unbegun a_copy plan = 0 < bytes_of plan.steps
unbegun _ plan = ⊥

-- the plan was not begun, since memory was out for copying what its steps move, or for their room; they tell at least a byte
abbrev pub Uncopied : {L A : Type 0} → Plan A → Line → Line → L → L → Refusal → Type 0
Uncopied plan old new before now r = (r ≡ NoMemory) × (new ≡ old) × (now ≡ before) × (0 < bytes_of plan.steps)

module _ {L : Type 0} (step : L → Event → L) where
  -- the listener after a step, from the cursor before it: it hears of the event, and then of where the cursor was and where it goes
  abbrev pub listener_after_step : ℕ → Step → L → L
  listener_after_step cursor s l = step (step l s.0) (Cursors cursor s.1)

  -- the listener after the steps, from the cursor before them
  abbrev pub listener_after : ℕ → List Step → L → L
  listener_after cursor [] l = l
  listener_after cursor (s ∷ ss) l = listener_after s.1 ss (listener_after_step cursor s l)

  -- the steps were taken: the line and the listener went through the same events
  pub record Taken (steps : List Step) (old new : Line) (before now : L) : Type 0 where
    pub line : after steps old ≡ Some new
    pub listener : now ≡ listener_after old.cursor steps before

  -- all steps of the plan were taken, and they alone moved the cursor
  pub record Completed {A : Type 0} (plan : Plan A) (old new : Line) (before now : L) : Type 0 where
    pub taken : Taken plan.steps old new before now
    pub cursor : new.cursor ≡ plan.cursor

  -- the whole plan was carried out
  pub record Done {A : Type 0} (plan : Plan A) (old new : Line) (before now : L) (answer : A) : Type 0 where
    pub last : Line
    pub taken : Taken plan.steps old last before now
    pub line : new ≡ record last { cursor = plan.cursor }
    pub answered : answer ≡ plan.answer

  -- the first steps were taken, and the next one was refused
  pub record Halted {A : Type 0} (refused : L → Event → Refusal → L → Type 0) (plan : Plan A) (old new : Line) (before now : L) (r : Refusal) : Type 0 where
    pub first : List Step
    pub next : Step
    pub others : List Step
    pub split : plan.steps ≡ first ++ next ∷ others
    pub middle : L
    pub taken : Taken first old new before middle
    pub cause : refused middle next.0 r now

  -- the plan was cut short, by the memory that it takes: it was halted, or, if it makes a copy first, not begun
  abbrev pub Cut : {A : Type 0} → (L → Event → Refusal → L → Type 0) → Takes → Plan A → Line → Line → L → L → Refusal → Type 0
  Cut refused a_copy plan old new before now r = Halted refused plan old new before now r ⊎ Uncopied plan old new before now r
  Cut refused takes plan old new before now r = Halted (refusal_of refused takes) plan old new before now r

  -- a step was refused, and the line is as it was
  pub record Untaken (refused : L → Event → Refusal → L → Type 0) (event : Event) (old new : Line) (before now : L) (r : Refusal) : Type 0 where
    pub kept : new ≡ old
    pub cause : refused before event r now

  -- what an edit comes to, with the refusals of its listener and by the memory that it takes: its plan is done, or cut short
  abbrev pub Outcome : {A : Type 0} → (L → Event → Refusal → L → Type 0) → Takes → Plan A → Line → Line → L → L → Result A Refusal → Type 0
  Outcome refused takes plan old new before now result = MatchResult result (Done plan old new before now) (Cut refused takes plan old new before now)

  -- the same of an edit that does not answer what its plan does
  abbrev pub Completion : {A B : Type 0} → (L → Event → Refusal → L → Type 0) → Takes → Plan A → Line → Line → L → L → Result B Refusal → Type 0
  Completion refused takes plan old new before now result = MatchResult result (λ _. Completed plan old new before now) (Cut refused takes plan old new before now)

  -- the same of one step
  abbrev pub StepOutcome : {B : Type 0} → (L → Event → Refusal → L → Type 0) → Takes → Step → Line → Line → L → L → Result B Refusal → Type 0
  StepOutcome refused takes s old new before now result =
      MatchResult result (λ _. Completed (of_step s (tt {0})) old new before now) (Untaken (refusal_of refused takes) s.0 old new before now)
