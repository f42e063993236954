-- What a session holds.
use Rattle.std.specs.Prelude.{◌≡◌, ℕ, ◌^◌, ◌<◌, ◌≤◌, max, false, true, IsSome, List, length, Option, Some, Result, Ok, Err}
use Rattle.std.specs.Str.{IsCharBoundary, IsUtf8}
use Rattle.rl_base.specs.Event.{Cursors, Replace}
use Rattle.rl_base.specs.KillRing.{Ring, IsRing, new_ring, reset, resized, ruled}
use Rattle.rl_base.specs.Reports.{IsLineText}
use Rattle.rl_base.specs.Splice.{Covers}
use Rattle.rl_base.specs.Watch.{Watched, ReportsLead, new_watch, watch_step}
use Rattle.rl_line.specs.Line.{Line, NeedsRoom}
use Rattle.rl_line.specs.Entry.{replay_entries, unwind}
use Rattle.rl_record.specs.Record.{Record, no_changes, saved_here}
use Rattle.rl_line.specs.Going.{line_ahead, line_back}
use Rattle.rl_record.specs.Undo.{Walks}
use Rattle.rl_session.specs.declared.options.Options.{Options}
use Rattle.rl_session.specs.declared.pair.Pair.{Pair}
use Rattle.rl_session.specs.declared.settings.Settings.{Settings}
use Rattle.rl_session.specs.declared.session.Fault.{Fault}
use Rattle.rl_session.specs.declared.session.Fault.TheVariants.{NoMemory, BadPlace, TooLong}

pub record State : Type 0 where
  pub line : Line
  pub pair : Pair
  pub options : Options

-- the line can go back over the recorded changes, and ahead over what was undone
pub record Follows (line : Line) (r : Record) : Type 0 where
  pub back : IsSome (line_back r.recorded line)
  pub ahead : IsSome (line_ahead r.pending line)

-- what holds between commands: the record leads to the text and on from it, no kill is on, and the line has no leave to
-- grow past its limit
pub record AtRest (line : Line) (pair : Pair) : Type 0 where
  pub walks : Walks pair.changes line.text
  pub idle : pair.ring.killing ≡ false
  pub grows_not : line.grow ≡ false

-- what holds of every session: a text with the cursor between two of its characters, within the limit, past which it may
-- not grow, and a ring that hears of no kill
pub record Stands (s : State) : Type 0 where
  pub utf8 : IsUtf8 s.line.text
  pub cursor : IsCharBoundary s.line.text s.line.cursor
  pub within : length s.line.text ≤ s.line.limit
  pub grows_not : s.line.grow ≡ false
  pub ring : IsRing s.pair.ring
  pub idle : s.pair.ring.killing ≡ false

-- the limit of a session's line is a usize
abbrev pub IsBounded : State → Type 0
IsBounded s = s.line.limit < 2 ^ 64

-- what holds after every command
pub record Ends (s : State) : Type 0 where
  pub stands : Stands s
  pub bounded : IsBounded s
  pub follows : Follows s.line s.pair.changes

-- the same with another watch
abbrev pub with_watch : Watched → State → State
with_watch watch s = record s { pair = record s.pair { watch = watch } }

-- the same with another ring
abbrev pub with_ring : Ring → State → State
with_ring ring s = record s { pair = record s.pair { ring = ring } }

-- the same, whose text is saved as it is
abbrev pub saved_now : State → State
saved_now s = record s { pair = record s.pair { changes = saved_here s.pair.changes } }

-- the state of a new session; a limit below the length of its text is raised to it
abbrev pub fresh : List ℕ → ℕ → Settings → State
fresh text pos settings = record {
  line = record { text = text; cursor = pos; limit = max settings.limit (length text); grow = false };
  pair = record { ring = ruled settings.new_kill (new_ring settings.ring_size); changes = no_changes; watch = new_watch };
  options = settings.options;
}

-- what is chosen of a session
abbrev pub settings_of : State → Settings
settings_of s = record { limit = s.line.limit; ring_size = s.pair.ring.size; new_kill = s.pair.ring.rule; options = s.options }

-- the same with other settings; the ring's oldest texts that it has no place for are gone
abbrev pub set_to : Settings → State → State
set_to settings s =
    record {
      line = record s.line { limit = settings.limit };
      pair = record s.pair { ring = ruled settings.new_kill (resized settings.ring_size s.pair.ring) };
      options = settings.options;
    }

-- a session begins with a text, as a new one and one that was restarted do: nothing is recorded yet
pub record Begins (text : List ℕ) (s : State) : Type 0 where
  pub stands : Stands s
  pub text_is : s.line.text ≡ text
  pub changes : s.pair.changes ≡ no_changes

-- the watch after it was told that all of a line's text gave way to another, at whose end the cursor stood then
abbrev pub told_anew : List ℕ → Line → Watched → Watched
told_anew text line watch = watch_step (watch_step watch (Replace 0 line.text text)) (Cursors line.cursor (length text))

-- the state after a restart: another text, nothing recorded, the ring with its slots, and a watch that was told that all the
-- old text gave way to the new one
abbrev pub restarted : List ℕ → ℕ → State → State
restarted text pos s = record {
  line = record s.line { text = text; cursor = pos };
  pair = record {
    ring = reset s.pair.ring;
    changes = no_changes;
    watch = told_anew text s.line s.pair.watch;
  };
  options = s.options;
}

-- why a session is not restarted: the place is no boundary of the text, the text is longer than the limit, or memory is out
-- for a text that needs more room
abbrev pub RefusesRestart : Fault → List ℕ → ℕ → State → Type 0
RefusesRestart BadPlace text pos s = ¬ (IsCharBoundary text pos)
RefusesRestart TooLong text pos s = IsCharBoundary text pos × (s.line.limit < length text)
RefusesRestart NoMemory text pos s = IsCharBoundary text pos × (length text ≤ s.line.limit) × NeedsRoom s.line.text text
RefusesRestart _ text pos s = ⊥

-- what making a session may give: a session with these settings, or BadPlace if the place is no boundary. NoMemory comes only
-- if the line's limit is above 0
abbrev pub Opens : List ℕ → ℕ → Settings → Result State Fault → Type 0
Opens text pos settings (Ok session) = IsCharBoundary text pos × (session ≡ fresh text pos settings)
Opens text pos settings (Err NoMemory) = IsCharBoundary text pos × (0 < max settings.limit (length text))
Opens text pos settings (Err BadPlace) = ¬ (IsCharBoundary text pos)
Opens text pos settings (Err _) = ⊥

-- the same of a session whose limit is kept: a longer text is TooLong, and NoMemory comes only of a text that is not empty
abbrev pub OpensWithin : List ℕ → ℕ → Settings → Result State Fault → Type 0
OpensWithin text pos settings (Ok session) = IsCharBoundary text pos × (length text ≤ settings.limit) × (session ≡ fresh text pos settings)
OpensWithin text pos settings (Err NoMemory) = IsCharBoundary text pos × (length text ≤ settings.limit) × (0 < length text)
OpensWithin text pos settings (Err BadPlace) = ¬ (IsCharBoundary text pos)
OpensWithin text pos settings (Err TooLong) = IsCharBoundary text pos × (settings.limit < length text)
OpensWithin text pos settings (Err _) = ⊥

-- the text from which a state came: the recorded changes, taken back from the present text
abbrev pub origin : State → Option (List ℕ)
origin s = unwind s.pair.changes.recorded s.line.text

-- the recorded changes, replayed from the starting text, give the present text
pub record Replays (start : List ℕ) (s : State) : Type 0 where
  pub is_text : IsUtf8 start
  pub leads : replay_entries s.pair.changes.recorded start ≡ Some s.line.text

-- the watch of a session takes in all in which the text differs from the one about which it was asked
pub record ChangedFrom (asked : List ℕ) (s : State) : Type 0 where
  pub stands : Stands s
  pub bounded : IsBounded s
  pub covers : Covers s.pair.watch.changed asked s.line.text

-- a session keeps reports, and those that wait lead from the text at which reading left off to the present one, with cursors
-- that stand there
pub record ReportedFrom (read : List ℕ) (s : State) : Type 0 where
  pub stands : Stands s
  pub bounded : IsBounded s
  pub text : IsLineText read
  pub leads : ReportsLead true s.pair.watch.reports read s.line.text
