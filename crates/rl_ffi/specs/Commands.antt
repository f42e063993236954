-- What a call that asks for a command does.
use Rattle.std.specs.Prelude.{◌≡◌, ◌⊎◌, ◌==◌, ℕ, List, Option, Some, None, Result, Ok, Err, String, if◌then◌else◌}
use Rattle.std.specs.declared.alloc.Global.{Global}
use Rattle.std.specs.declared.ops.Range.{Range}
use Rattle.rl_base.specs.declared.motion.Movement.{Movement}
use Rattle.rl_line.specs.Deletions.{CanDeleteBy}
use Rattle.rl_session.specs.Commands.{deletion_of}
use Rattle.rl_session.specs.Performing.{Performed, PerformedWith}
use Rattle.rl_session.specs.State.{State}
use Rattle.rl_session.specs.Typing.{TypesBytes}
use Rattle.rl_session.specs.declared.session.Command.{Command}
use Rattle.rl_session.specs.declared.session.Command.TheVariants.{DeleteRange, InsertStr, Move, Paste, Replace, SetPos, Update}
use Rattle.rl_session.specs.declared.session.Reply.{Reply}
use Rattle.rl_session.specs.declared.session.typing.Typed.{Typed}
use Rattle.rl_session.specs.declared.session.typing.TypeFault.{TypeFault}
use Rattle.rl_session.specs.declared.session.typing.TypeFault.TheVariants as untyped
use Rattle.rl_ffi.specs.Answers.{of_fault, placed, told}
use Rattle.rl_ffi.specs.Calls.{Effect, EffectOut, Tale, leaves, of_text, refuses}
use Rattle.rl_ffi.specs.Reach.{spanned}
use Rattle.rl_ffi.specs.declared.answers.Answer.{Answer}
use Rattle.rl_ffi.specs.declared.answers.Answer.TheVariants.{NoSuchNumber, NotUtf8, Nothing}
use Rattle.rl_ffi.specs.declared.reach.Reach.{Reach}
use Rattle.rl_ffi.specs.declared.reach.Reach.TheVariants.{By, To}
use Rattle.rl_ffi.specs.declared.shapes.CRange.{CRange}

-- a command is performed by the session's options, and its reply tells the answer. No abbreviation, as those below, so that
-- it is one fact for the search
unfoldable pub performs_as : (Reply → Answer) → Command → Effect
performs_as tell command s n new = (reply : Reply) × Performed s command reply new × (n ≡ tell reply)

abbrev pub performs : Command → Effect
performs = performs_as told

-- the same of a command with a text; and with bytes of C, if they are one
unfoldable pub performs_text : (Reply → Answer) → List ℕ → (String Global → Command) → Effect
performs_text tell bytes make s n new = (reply : Reply) × PerformedWith bytes make s reply new × (n ≡ tell reply)

abbrev pub performs_with_as : (Reply → Answer) → List ℕ → (String Global → Command) → Effect
performs_with_as tell bytes make = of_text bytes (performs_text tell bytes make)

abbrev pub performs_with : List ℕ → (String Global → Command) → Effect
performs_with = performs_with_as told

-- the commands of a text, by what else they are given
abbrev pub paste_of : ℕ → String Global → Command
paste_of n text = Paste text n

abbrev pub update_of : ℕ → String Global → Command
update_of pos text = Update text pos

abbrev pub insertion_of : ℕ → String Global → Command
insertion_of place text = InsertStr place text

abbrev pub replacement_of : CRange → String Global → Command
replacement_of range text = Replace range.from range.to text

-- a run of kills ends, as by a motion to where the cursor is, and nothing else changes
abbrev pub ends_kills : State → State → Type 0
ends_kills s new = (reply : Reply) × Performed s (SetPos s.line.cursor) reply new

abbrev pub finds_nothing : Effect
finds_nothing s n new = (n ≡ Nothing) × ends_kills s new

-- a motion: by a movement, or to where a text was found
abbrev pub moves : Reach → Effect
moves (By m) = performs (Move m)
moves (To None) = finds_nothing
moves (To (Some at)) = performs (SetPos at)

-- bytes are typed, and it is told how many, if there were some
abbrev pub typed_answer : Typed → Answer
typed_answer typed = if typed.len == 0 then Nothing else placed typed.at_end

abbrev pub tells_typed : Result Typed TypeFault → Tale ℕ
tells_typed (Ok typed) n out out' = (n ≡ typed_answer typed) × (out' ≡ (if typed.len == 0 then out else typed.len))
tells_typed (Err untyped.NotUtf8) n out out' = refuses NotUtf8 n out out'
tells_typed (Err (untyped.Refused why)) n out out' = refuses (of_fault why) n out out'

unfoldable pub types : List ℕ → EffectOut ℕ
types bytes s n new out out' = (result : Result Typed TypeFault) × TypesBytes bytes s result new × tells_typed result n out out'

-- a deletion by a movement to one side of the cursor
unfoldable pub deletes_by : Movement → Effect
deletes_by m s n new = (CanDeleteBy m × performs (deletion_of m) s n new) ⊎ ((¬ (CanDeleteBy m)) × leaves NoSuchNumber s n new)

-- a deletion of what a movement covers: of what lies between the cursor and where a text was found
abbrev pub deletes_range : Option (Range ℕ) → Effect
deletes_range None = finds_nothing
deletes_range (Some r) = performs (DeleteRange r.start r.end)

abbrev pub deletes : Reach → Effect
deletes (By m) s = deletes_by m s
deletes (To found) s = deletes_range (spanned s.line.cursor found) s
