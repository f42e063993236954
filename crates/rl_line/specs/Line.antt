-- The state of a line, and ranges of its text.
use Rattle.rl_base.specs.Event.{Event, apply}
use Rattle.rl_base.specs.Text.{is_boundary}
use Rattle.rl_line.specs.LineStarts.{IsTable}
use Rattle.std.specs.Prelude.{Bool, List, None, Option, Some, if◌then◌else◌, length, max, option_and_then, true, ℕ, ◌<◌, ◌≡◌, ◌≤◌}
use Rattle.std.specs.Str.{IsCharBoundary}
use Rattle.std.specs.declared.ops.Range.{Range}

-- the text, the place of the cursor, the limit on the text's length, and whether the line may grow past it
pub record Line : Type 0 where
  pub text : List ℕ
  pub cursor : ℕ
  pub limit : ℕ
  pub grow : Bool

-- the table, if there is one, belongs to the text, the cursor stands between two characters, and the text keeps to the limit
pub record IsLine (text starts : List ℕ) (border : ℕ) (has_table : Bool) (cursor limit : ℕ) : Type 0 where
  pub table : has_table ≡ true → IsTable starts border text
  pub at_boundary : IsCharBoundary text cursor
  pub within : length text ≤ limit

-- the line of a text, a cursor, a limit, and a leave to grow
abbrev pub line_of : List ℕ → ℕ → ℕ → Bool → Line
line_of text cursor limit grow = record { text = text; cursor = cursor; limit = limit; grow = grow }

-- the line after a step that made `text` and left the cursor at `cursor`: the limit rises if it has to
abbrev pub stepped : Line → List ℕ → ℕ → Line
stepped line text cursor = record line { text = text; cursor = cursor; limit = max line.limit (length text) }

-- a line, if its cursor stands between two characters
abbrev pub if_standing : Line → Option Line
if_standing line = if is_boundary line.text line.cursor then Some line else None

-- the line after an event and with the cursor at a place, if the event fits the text and the cursor comes to stand between two
-- characters
abbrev pub after_step : Event → ℕ → Line → Option Line
after_step event cursor line = option_and_then (λ text. if_standing (stepped line text cursor)) (apply event line.text)

-- a text needs room that another does not: it is longer
abbrev pub NeedsRoom : List ℕ → List ℕ → Type 0
NeedsRoom text other = length text < length other

-- the range from a place to another
abbrev pub between : ℕ → ℕ → Range ℕ
between i j = record { start = i; end = j }
