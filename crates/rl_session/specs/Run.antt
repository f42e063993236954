-- Runs of a session, and the texts that its line held on the way.
use Rattle.std.specs.Prelude.{◌≡◌, ℕ, true, false, List, [], ◌∷◌, ◌++◌, map}
use mathlib.Core.Logic.{inl, inr}
use Rattle.rl_base.specs.Event.{Event, Start}
use Rattle.rl_line.specs.Plan.{Step as PlanStep, events_of}
use Rattle.rl_record.specs.Calls.{texts_of_call}
use Rattle.rl_line.specs.Going.{steps_ahead, steps_back, texts_after}
use Rattle.rl_record.specs.Units.{last_of, redo_of, open_group}
use Rattle.rl_session.specs.declared.session.Command.{Command}
use Rattle.rl_session.specs.declared.session.Reply.{Reply}
use Rattle.rl_session.specs.Pair.{pair_step}
use Rattle.rl_session.specs.State.{State}
use Rattle.rl_session.specs.Commands.{Course, when, edits, stops, lends, pops, tells, Came, Effect, by_steps, takes_back, gives_up, puts_again, Became, effect, lent, popped, Does, Step, readied, on_record}

-- the texts after each of these steps of an edit
abbrev pub texts_of_steps : List PlanStep → List ℕ → List (List ℕ)
texts_of_steps steps text = texts_after (events_of steps) text

-- the steps that were taken on a course
abbrev pub steps_in : (course : Course) (old new : State) → Came course old new → List PlanStep
steps_in (when condition course) old new d = steps_in course old new d.1
steps_in (edits plan answer) old new d = plan.steps
steps_in (stops unbegun takes plan) old new (inl e) = []
steps_in (stops unbegun takes plan) old new (inr cut) = cut.halted.first
steps_in (lends course) old new d = steps_in course (lent old) new d
steps_in (pops course) old new d = steps_in course (popped old) new d
steps_in (tells true course) old new d = steps_in course old new d
steps_in (tells false course) old new d = steps_in course (record old { pair = pair_step old.pair Start }) (record new { pair = d.last }) d.inside
steps_in _ old new d = []

-- the steps by which the line went: those of an edit that were taken; of an undo those that take its entries back, the last
-- first; and of a redo those of its entries
abbrev pub steps_done : (effect : Effect) (old new : State) → Became effect old new → List PlanStep
steps_done (by_steps course) old new d = steps_in course old new d
steps_done (takes_back n answer) old new d = steps_back old.line.cursor (last_of n old.pair.changes.recorded)
steps_done (gives_up answer) old new d = steps_back old.line.cursor (open_group old.pair.changes.recorded)
steps_done (puts_again answer) old new d = steps_ahead old.line.cursor (redo_of old.pair.changes.pending)
steps_done _ old new d = []

-- the texts that were held: those after each event of these steps; where what was undone is kept, those on the way there and
-- back, all of which were held before (`history::what_is_kept_was_held`)
abbrev pub held_by : (effect : Effect) (old new : State) → Became effect old new → List (List ℕ)
held_by (on_record answered call) old new d = texts_of_call call old.pair.changes old.line.text
held_by effect old new d = texts_of_steps (steps_done effect old new d) old.line.text

-- the texts that a row held
abbrev pub held_in : (old : State) (command : Command) (reply : Reply) (new : State) → Does old command reply new → List (List ℕ)
held_in old command reply new d = held_by (effect old command reply) old new d

-- a command of a run with its reply, and the states around it
pub record Row : Type 0 where
  pub before : State
  pub command : Command
  pub reply : Reply
  pub after : State
  pub step : Step before command reply after

abbrev pub held : Row → List (List ℕ)
held row = held_in (readied row.command row.before) row.command row.reply row.step.left row.step.does

abbrev pub held_of : List Row → List (List ℕ)
held_of [] = []
held_of (row ∷ rows) = held row ++ held_of rows

-- what a row reports: the events of its steps
abbrev pub reports : Row → List Event
reports row = events_of (steps_done (effect (readied row.command row.before) row.command row.reply) (readied row.command row.before) row.step.left row.step.does)

abbrev pub reports_of : List Row → List Event
reports_of [] = []
reports_of (row ∷ rows) = reports row ++ reports_of rows

-- the rows lead from old to new, each from where the one before it ended
abbrev pub Leads : State → List Row → State → Type 0
Leads old [] new = new ≡ old
Leads old (row ∷ rows) new = (row.before ≡ old) × Leads row.after rows new

-- the state before the last row, or the given state if there is no row
abbrev pub before_last : State → List Row → State
before_last s [] = s
before_last s (row ∷ []) = row.before
before_last s (row ∷ (next ∷ rows)) = before_last s (next ∷ rows)

-- the commands of the rows, and their replies
abbrev pub commands_of : List Row → List Command
commands_of rows = map (λ (row : Row). row.command) rows

abbrev pub replies_of : List Row → List Reply
replies_of rows = map (λ (row : Row). row.reply) rows

-- the commands, one after another, had these replies
pub record Run (old : State) (commands : List Command) (replies : List Reply) (new : State) : Type 0 where
  pub rows : List Row
  pub leads : Leads old rows new
  pub asked : commands_of rows ≡ commands
  pub answered : replies_of rows ≡ replies

-- the fact holds of the state after each row
abbrev pub AfterEach : (State → Type 0) → List Row → Type 0
AfterEach P [] = Unit {0}
AfterEach P (row ∷ rows) = P row.after × AfterEach P rows
