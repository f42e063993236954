-- A session as bytes.
use Rattle.std.specs.Prelude.{◌≡◌, ◌<◌, ◌≤◌, ◌^◌, ℕ, Bool, true, false, List, [], ◌∷◌, ◌++◌, All, length}
use Rattle.std.specs.Str.{IsCharBoundary, IsUtf8}
use Rattle.std.specs.Int.{to_le_bytes, w64}
use Rattle.rl_base.specs.Checksum.{xxh64}
use Rattle.rl_base.specs.SavedRing.{IsSavedRing, saved_ring}
use Rattle.rl_base.specs.Saving.{Fits, numbers}
use Rattle.rl_base.specs.Watch.{new_watch}
use Rattle.rl_base.specs.declared.layout.GraphemeClusterMode.{GraphemeClusterMode}
use Rattle.rl_base.specs.declared.layout.GraphemeClusterMode.TheVariants.{Unicode, WcWidth, NoZwj}
use Rattle.rl_base.specs.declared.saving.Width.TheVariants.{Eight}
use Rattle.rl_line.specs.Line.{Line}
use Rattle.rl_record.specs.SavedRecord.{FitsEntry, IsSavedRecord, saved_record}
use Rattle.rl_record.specs.Undo.{Walks}
use Rattle.rl_session.specs.State.{State, with_watch}
use Rattle.rl_session.specs.declared.options.Options.{Options}

abbrev pub truth_number : Bool → ℕ
truth_number false = 0
truth_number true = 1

abbrev pub mode_number : GraphemeClusterMode → ℕ
mode_number Unicode = 0
mode_number WcWidth = 1
mode_number NoZwj = 2

-- the numbers of a line and of the options, and then how long the text is
abbrev pub line_numbers : Line → List ℕ
line_numbers line = line.limit ∷ line.cursor ∷ []

abbrev pub option_numbers : Options → List ℕ
option_numbers options =
    mode_number options.mode ∷ options.prompt ∷ truth_number options.keeps ∷ options.bound.entries ∷ options.bound.bytes ∷ options.bound.ring_bytes ∷ []

abbrev pub state_numbers : State → List ℕ
state_numbers s = line_numbers s.line ++ (option_numbers s.options ++ length s.line.text ∷ [])

-- the parts of a session, one after another: its numbers and its text, its ring, its record
unfoldable pub saved_line : State → List ℕ
saved_line s = numbers Eight (state_numbers s) ++ s.line.text

unfoldable pub saved_state : State → List ℕ
saved_state s = saved_line s ++ (saved_ring s.pair.ring ++ saved_record s.pair.changes)

-- the name of the format, and its version
abbrev pub heading : List ℕ
heading = 108 ∷ 111 ∷ 100 ∷ 118 ∷ 97 ∷ 114 ∷ 110 ∷ 1 ∷ []

-- bytes begin as this version begins them
abbrev pub HasHeading : List ℕ → Type 0
HasHeading bytes = (inside : List ℕ) × (bytes ≡ heading ++ inside)

-- the checksum of bytes, its lowest byte first
unfoldable pub checksum : List ℕ → List ℕ
checksum bytes = to_le_bytes w64 (xxh64 bytes)

-- bytes with the heading before them, and the checksum of both after them
unfoldable pub sealed : List ℕ → List ℕ
sealed bytes = (heading ++ bytes) ++ checksum (heading ++ bytes)

-- a session as bytes
abbrev pub saved_session : State → List ℕ
saved_session s = sealed (saved_state s)

-- a session as it is loaded: it keeps no reports, and nothing changed yet
abbrev pub unwatched : State → State
unwatched s = with_watch new_watch s

-- a session that such bytes are read as
pub record IsSavedState (s : State) : Type 0 where
  pub text : IsUtf8 s.line.text
  pub cursor : IsCharBoundary s.line.text s.line.cursor
  pub within : length s.line.text ≤ s.line.limit
  pub grows_not : s.line.grow ≡ false
  pub fits : All (Fits Eight) (state_numbers s)
  pub prompt : s.options.prompt < 2 ^ 16
  pub walks : Walks s.pair.changes s.line.text
  pub ring : IsSavedRing s.pair.ring
  pub changes : IsSavedRecord s.pair.changes

-- the texts and places of its record are not too long to be saved
pub record FitsSaving (s : State) : Type 0 where
  pub entries : All FitsEntry (s.pair.changes.recorded ++ s.pair.changes.pending)
