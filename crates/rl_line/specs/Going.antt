-- How a line goes back over entries, and ahead again.
use Rattle.rl_base.specs.Event.{Event, apply}
use Rattle.rl_base.specs.Text.{is_boundary}
use Rattle.rl_base.specs.declared.listeners.Refusal.{Refusal}
use Rattle.rl_base.specs.declared.listeners.Refusal.TheVariants.{NoMemory}
use Rattle.rl_line.specs.Entry.{Begin, Changed, End, Entry, cursors_of, event_of, events_ahead, events_back, inverse, past, replay_entries, unwind}
use Rattle.rl_line.specs.Line.{Line, NeedsRoom, after_step}
use Rattle.rl_line.specs.Plan.{Step, listener_after}
use Rattle.rl_line.specs.declared.change.Way.{Way}
use Rattle.rl_line.specs.declared.change.Way.TheVariants.{Ahead, Back}
use Rattle.std.specs.Option.{option_map, option_map_or}
use Rattle.std.specs.Prelude.{Any, Bool, List, None, Option, Some, [], map, not, option_and_then, reverse, true, unwrap_or, ℕ, ◌++◌, ◌||◌, ◌∷◌, ◌≡◌}
use Rattle.std.specs.Str.{IsCharBoundary}

-- the cursor after an entry was made, if that was told
abbrev pub cursor_told : Entry → Option ℕ
cursor_told e = option_map (λ (cursors : ℕ × ℕ). cursors.1) (cursors_of e)

-- if that is asked: the cursor stands between two characters of the text after an entry, if it was told
abbrev pub cursor_stands : Bool → Entry → List ℕ → Bool
cursor_stands asks e text = not asks || option_map_or (is_boundary text) (cursor_told e) true

-- where the cursor goes otherwise: to the entry's place, past what it put in; a mark leaves it
abbrev pub place_after : ℕ → Entry → ℕ
place_after cursor (Changed kind swap) = past swap
place_after cursor _ = cursor

-- the cursor after an entry was made
abbrev pub cursor_after : ℕ → Entry → ℕ
cursor_after cursor e = unwrap_or (cursor_told e) (place_after cursor e)

-- the line after an entry was made, if the entry fits the text and the cursor comes to stand between two characters
abbrev pub line_after : Entry → Line → Option Line
line_after e line = after_step (event_of e) (cursor_after line.cursor e) line

-- the line after the entries were made, the first first
abbrev pub line_ahead : List Entry → Line → Option Line
line_ahead [] line = Some line
line_ahead (e ∷ es) line = option_and_then (line_ahead es) (line_after e line)

-- the line after the entries were taken back, the last first
abbrev pub line_back : List Entry → Line → Option Line
line_back [] line = Some line
line_back (e ∷ es) line = option_and_then (line_after (inverse e)) (line_back es line)

-- the steps by which a line goes ahead over entries, from where its cursor stands; a mark is no step
abbrev pub steps_ahead : ℕ → List Entry → List Step
steps_ahead cursor [] = []
steps_ahead cursor (Begin ∷ es) = steps_ahead cursor es
steps_ahead cursor (End ∷ es) = steps_ahead cursor es
steps_ahead cursor (Changed kind swap ∷ es) =
    (event_of (Changed kind swap), cursor_after cursor (Changed kind swap)) ∷ steps_ahead (cursor_after cursor (Changed kind swap)) es

-- the steps by which it goes back, the last entry first
abbrev pub steps_back : ℕ → List Entry → List Step
steps_back cursor es = steps_ahead cursor (map inverse (reverse es))

-- the listener after it was told of the way over entries: back, and ahead
abbrev pub listener_back : {L : Type 0} → (L → Event → L) → ℕ → List Entry → L → L
listener_back step cursor es before = listener_after step cursor (steps_back cursor es) before

abbrev pub listener_ahead : {L : Type 0} → (L → Event → L) → ℕ → List Entry → L → L
listener_ahead step cursor es before = listener_after step cursor (steps_ahead cursor es) before

-- the texts after each of these events, from the text before, as far as they fit
abbrev pub texts_after : List Event → List ℕ → List (List ℕ)
texts_after [] text = []
texts_after (e ∷ es) text = elim (apply e text) [ None ↦ [] | Some next ↦ next ∷ texts_after es next ]

-- the texts after each of these entries was taken back, and after each was made again
abbrev pub texts_back : List Entry → List ℕ → List (List ℕ)
texts_back entries text = texts_after (events_back entries) text

abbrev pub texts_ahead : List Entry → List ℕ → List (List ℕ)
texts_ahead entries text = texts_after (events_ahead entries) text

-- on the way back from a text, each cursor that was told as the one before a change stands between two characters there
abbrev pub StandBefore : List Entry → List ℕ → Type 0
StandBefore es text = (first others : List Entry) (e : Entry) (place : ℕ) (now : List ℕ) → es ≡ first ++ e ∷ others → cursor_told (inverse e) ≡ Some place
    → unwind (e ∷ others) text ≡ Some now → IsCharBoundary now place

-- on the way ahead, each cursor that was told as the one after a change
abbrev pub StandAfter : List Entry → List ℕ → Type 0
StandAfter es text = (first others : List Entry) (e : Entry) (place : ℕ) (now : List ℕ) → es ≡ first ++ e ∷ others → cursor_told e ≡ Some place
    → replay_entries (first ++ e ∷ []) text ≡ Some now → IsCharBoundary now place

-- memory is out for a text on the way, which needs more room than the line's text has, and the line is as it was
abbrev pub LineOutOfRoom : Line → Line → List (List ℕ) → Refusal → Type 0
LineOutOfRoom line line' texts why = (why ≡ NoMemory) × (line' ≡ line) × Any (NeedsRoom line.text) texts

abbrev pub line_over : Way → List Entry → Line → Option Line
line_over Back es line = line_back es line
line_over Ahead es line = line_ahead es line

abbrev pub steps_over : Way → ℕ → List Entry → List Step
steps_over Back cursor es = steps_back cursor es
steps_over Ahead cursor es = steps_ahead cursor es

abbrev pub listener_over : {L : Type 0} → (L → Event → L) → Way → ℕ → List Entry → L → L
listener_over step way cursor es before = listener_after step cursor (steps_over way cursor es) before

abbrev pub texts_over : Way → List Entry → List ℕ → List (List ℕ)
texts_over Back es text = texts_back es text
texts_over Ahead es text = texts_ahead es text
