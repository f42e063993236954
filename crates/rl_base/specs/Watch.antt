-- What a watch tells: what changed since it was asked last, and the reports that wait to be read.
use Rattle.std.specs.Prelude.{◌≡◌, ℕ, ◌<◌, Bool, List, [], Option, Some, None, IsSome, option_and_then, unwrap_or}
use Rattle.std.specs.Option.{option_map}
use Rattle.rl_base.specs.declared.splice.Splice.{Splice}
use Rattle.rl_base.specs.declared.watch.WatchFault.{WatchFault}
use Rattle.rl_base.specs.declared.watch.WatchFault.TheVariants.{NoMemory, NoRoom, IsWatched}
use Rattle.rl_base.specs.Event.{Event}
use Rattle.rl_base.specs.Reports.{Leads, Noted, Queue, count_of, oldest, past_oldest, queue_step}
use Rattle.rl_base.specs.Splice.{spliced, untouched}

-- all that changed, as one splice, and a queue of reports, if one is kept
pub record Watched : Type 0 where
  pub changed : Splice
  pub reports : Option Queue

-- a watch that has seen no change, and keeps no reports
abbrev pub new_watch : Watched
new_watch = record { changed = untouched; reports = None }

-- the watch after an event
abbrev pub watch_step : Watched → Event → Watched
watch_step w event = record { changed = spliced w.changed event; reports = option_map (λ (q : Queue). queue_step q event) w.reports }

-- why no queue of so many reports is made: it would hold none, there is one already, or memory is out
abbrev pub RefusesQueue : WatchFault → ℕ → Watched → Type 0
RefusesQueue NoRoom room w = room ≡ 0
RefusesQueue IsWatched room w = (0 < room) × IsSome w.reports
RefusesQueue NoMemory room w = (0 < room) × (w.reports ≡ None)

-- how many reports wait; none if none are kept
abbrev pub waiting_count : Watched → ℕ
waiting_count w = unwrap_or (option_map (λ (q : Queue). count_of q.waiting) w.reports) 0

-- the report that is taken next, with its texts
abbrev pub next_note : Watched → Option Noted
next_note w = option_and_then (λ (q : Queue). oldest q.waiting) w.reports

-- the watch once that was taken, and the texts of the report that was taken last
abbrev pub past_next : Watched → Watched
past_next w = record w { reports = option_map past_oldest w.reports }

abbrev pub taken_texts : Watched → List ℕ
taken_texts w = unwrap_or (option_map (λ (q : Queue). q.taken) w.reports) []

-- how many bytes of texts the queue keeps, if one is kept
abbrev pub text_room : Watched → ℕ
text_room w = unwrap_or (option_map (λ (q : Queue). q.text_room) w.reports) 0

-- a queue is kept, and its reports lead from a text to another; with `placed`, their cursors stand there too
abbrev pub ReportsLead : Bool → Option Queue → List ℕ → List ℕ → Type 0
ReportsLead placed None old new = ⊥
ReportsLead placed (Some q) old new = Leads placed q old new
