-- What the calls tell that lay a text out on a screen.
use Rattle.std.specs.Prelude.{◌⊎◌, ℕ, ◌&&◌, nat_le, nat_lt, Bool, List, slice_get, Option, Some, Result, Ok, Err, if◌then◌else◌}
use Rattle.std.specs.Option.{IfSome}
use Rattle.std.specs.Str.{IsCharBoundary}
use Rattle.rl_base.specs.Screen.{cell, place_at, rows, rows_from}
use Rattle.rl_base.specs.declared.layout.GraphemeClusterMode.{GraphemeClusterMode}
use Rattle.rl_base.specs.declared.screen.Screen.{Screen}
use Rattle.rl_line.specs.Line.{Line}
use Rattle.rl_ffi.specs.Calls.{Fills, FillsFront, Tale, Telling, Writes, of_bytes, refuses, told_where, where_named}
use Rattle.rl_ffi.specs.Numbers.{count_of, given_of, mode_of}
use Rattle.rl_ffi.specs.declared.answers.Answer.{Answer}
use Rattle.rl_ffi.specs.declared.answers.Answer.TheVariants.{BadOffset, NoSuchNumber}
use Rattle.rl_ffi.specs.declared.shapes.CPosition.{CPosition}
use Rattle.rl_ffi.specs.declared.shapes.CScreen.{CScreen}

-- a screen has a column at least, and its numbers of columns have 16 bits
abbrev pub has_units : CScreen → Bool
has_units s =
    nat_lt 0 s.columns && nat_le s.columns 65535 && nat_le s.prompt 65535 && nat_le s.continuation 65535 && nat_le s.tab 65535
    && nat_le s.controls 65535

abbrev pub screen_by : Result GraphemeClusterMode Answer → CScreen → Result Screen Answer
screen_by (Err why) s = Err why
screen_by (Ok mode) s =
    Ok (record { mode = mode; columns = s.columns; prompt = s.prompt; continuation = s.continuation; tab = s.tab; controls = s.controls })

abbrev pub screen_of : CScreen → Result Screen Answer
screen_of s = if has_units s then screen_by (mode_of s.mode) s else Err NoSuchNumber

abbrev pub position : ℕ × ℕ → CPosition
position at = record { line = at.0; column = at.1 }

-- the cell of a place
abbrev pub TellsCell : CScreen → ℕ → List ℕ → Tale CPosition
TellsCell screen place text = where_named (screen_of screen) (λ (on : Screen). of_bytes text (λ n out out'.
    (IsCharBoundary text place × Writes (Some (position (cell on text place))) n out out')
    ⊎ ((¬ (IsCharBoundary text place)) × refuses BadOffset n out out')))

-- the place of a cell
abbrev pub TellsPlace : CScreen → CPosition → List ℕ → Tale ℕ
TellsPlace screen at text =
    where_named (screen_of screen) (λ (on : Screen). of_bytes text (Writes (Some (place_at on text (at.line, at.column)))))

-- the places where rows begin
abbrev pub TellsRows : CScreen → List ℕ → Tale (List ℕ × ℕ)
TellsRows screen text = where_named (screen_of screen) (λ (on : Screen). of_bytes text (Fills (rows on text)))

-- the places where rows begin from a place of a text on. No abbreviation, so that it is one fact for the search, as is what a
-- motion by rows tells
unfoldable pub FillsRows : Screen → List ℕ → ℕ → Tale (List ℕ × (ℕ × ℕ))
FillsRows on text from =
    told_where (IsCharBoundary text from) BadOffset (FillsFront (rows_from on text from) (slice_get (rows_from on text from)))

abbrev pub TellsRowsFrom : CScreen → ℕ → Telling (List ℕ × (ℕ × ℕ))
TellsRowsFrom screen from s = where_named (screen_of screen) (λ (on : Screen). FillsRows on s.line.text from)

-- a motion by rows from the cursor, up or down: the place to which it leads, and the column that it keeps to
abbrev pub Motion : Type 1
Motion = Screen → List ℕ → Option ℕ → ℕ → Option ℕ → ℕ → Option (ℕ × ℕ) → Type 0

-- it is told by a place where a row begins, if one is given, and by the column that was handed in
unfoldable pub TellsRowOf : Motion → Screen → ℕ → ℕ → Line → Tale (ℕ × ℕ)
TellsRowOf Leads on from k line = told_where (IfSome (given_of from) (λ (place : ℕ). IsCharBoundary line.text place)) BadOffset (λ answer out out'.
    (told : Option (ℕ × ℕ)) × Leads on line.text (given_of from) k (given_of out.1) line.cursor told × Writes told answer out out')

abbrev pub TellsRow : Motion → CScreen → ℕ → ℕ → Telling (ℕ × ℕ)
TellsRow Leads screen from n s =
    where_named (screen_of screen) (λ (on : Screen). where_named (count_of n) (λ (k : ℕ). TellsRowOf Leads on from k s.line))
