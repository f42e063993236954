-- Saving a session, and opening one that was saved.
use Rattle.std.specs.Prelude.{◌≡◌, ◌⊎◌, ℕ, List, Option, Some}
use Rattle.rl_session.specs.SavedSession.{FitsSaving, HasHeading, IsSavedState, saved_session, unwatched}
use Rattle.rl_session.specs.State.{ChangedFrom, Ends, State}
use Rattle.rl_ffi.specs.Calls.{Tale, Telling, refuses}
use Rattle.rl_ffi.specs.Reads.{Lends}
use Rattle.rl_ffi.specs.declared.answers.Answer.TheVariants.{Damaged, Done, NoMemory, NoRoom, UnknownFormat}
use Rattle.rl_ffi.specs.declared.view.View.{View}

-- the session is lent as bytes that can be read again; or memory is out; or a text or a place is too long for that
abbrev pub Saves : Telling View
Saves s n out out' = (IsSavedState s × Lends (Some (saved_session s)) n out out') ⊎ refuses NoMemory n out out' ⊎ (¬ (FitsSaving s) × refuses NoRoom n out out')

-- a session takes the place of what the handle held: the one of which these bytes are saved, without its reports. Or the bytes
-- do not begin as this version begins them. Or they do, and memory is out, or they are saved of no session
abbrev pub OpensSaved : List ℕ → Tale (Option State)
OpensSaved bytes n old new =
    ((s : State) × IsSavedState s × (bytes ≡ saved_session s) × (s ≡ unwatched s) × Ends s × ChangedFrom s.line.text s × (n ≡ Done) × (new ≡ Some s))
    ⊎ (¬ (HasHeading bytes) × refuses UnknownFormat n old new)
    ⊎ (HasHeading bytes × refuses NoMemory n old new)
    ⊎ (HasHeading bytes × ((t : State) → IsSavedState t → bytes ≡ saved_session t → ⊥) × refuses Damaged n old new)
