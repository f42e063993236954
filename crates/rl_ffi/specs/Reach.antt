-- What a movement of C reaches in a session: it is one of the core, or it leads to a text.
use Rattle.std.specs.Prelude.{◌≡◌, ◌==◌, ◌<◌, ℕ, nat_lt, List, length, Option, Some, None, option_map, option_and_then, Result, Ok, Err, IfSome, if◌then◌else◌, ⊤}
use Rattle.std.specs.Str.{IsCharBoundary, IsUtf8}
use Rattle.std.specs.declared.ops.Range.{Range}
use Rattle.rl_base.specs.Search.{find_text}
use Rattle.rl_base.specs.declared.listeners.Direction.{Direction}
use Rattle.rl_base.specs.declared.listeners.Direction.TheVariants.{Forward, Backward}
use Rattle.rl_base.specs.declared.motion.Movement.{Movement}
use Rattle.rl_line.specs.Line.{between}
use Rattle.rl_line.specs.Ranges.{covered}
use Rattle.rl_session.specs.Commands.{destination, with_cursor}
use Rattle.rl_session.specs.State.{State}
use Rattle.rl_ffi.specs.Calls.{Effect, of_named}
use Rattle.rl_ffi.specs.Numbers.{movement_of}
use Rattle.rl_ffi.specs.declared.answers.Answer.{Answer}
use Rattle.rl_ffi.specs.declared.answers.Answer.TheVariants.{BadOffset, NoSuchNumber, NotUtf8}
use Rattle.rl_ffi.specs.declared.reach.Reach.{Reach}
use Rattle.rl_ffi.specs.declared.reach.Reach.TheVariants.{By, To}
use Rattle.rl_ffi.specs.declared.shapes.CMovement.{CMovement}

-- the direction of a movement to a text, by the number of its kind
abbrev pub direction_by : ℕ → Option Direction
direction_by k = if k == 107 then Some Forward else if k == 108 then Some Backward else None

-- a search from an offset leads to where the text begins that it finds; the offset must be a boundary, and the text no empty one
abbrev pub Searches : ℕ → List ℕ → Direction → State → Result Reach Answer → Type 0
Searches from text direction s (Ok (By m)) = ⊥
Searches from text direction s (Ok (To found)) =
    (0 < length text) × IsUtf8 text × IsCharBoundary s.line.text from
    × (found ≡ option_map (λ (r : Range ℕ). r.start) (find_text s.line.text from text direction))
Searches from text direction s (Err NoSuchNumber) = length text ≡ 0
Searches from text direction s (Err NotUtf8) = ¬ (IsUtf8 text)
Searches from text direction s (Err BadOffset) = ¬ (IsCharBoundary s.line.text from)
Searches from text direction s (Err why) = ⊥

-- what a movement reaches from an offset; of one of the core that is the movement
abbrev pub by_movement : Result Movement Answer → Result Reach Answer
by_movement (Ok m) = Ok (By m)
by_movement (Err why) = Err why

abbrev pub reaches_by : Option Direction → ℕ → CMovement → State → Result Reach Answer → Type 0
reaches_by None from m s result = result ≡ by_movement (movement_of m)
reaches_by (Some direction) from m s result = Searches from m.text.now direction s result

abbrev pub Reaches : ℕ → CMovement → State → Result Reach Answer → Type 0
Reaches from m = reaches_by (direction_by m.kind) from m

-- a search goes from a boundary to a boundary
abbrev pub IsInText : List ℕ → ℕ → Reach → Type 0
IsInText text from (By m) = ⊤
IsInText text from (To found) = IsCharBoundary text from × IfSome found (IsCharBoundary text)

-- what a call does by what a movement reaches from the cursor. No abbreviation, so that it is one fact for the search
unfoldable pub of_reach : CMovement → (Reach → Effect) → Effect
of_reach m Does s n new = (reach : Result Reach Answer) × Reaches s.line.cursor m s reach × of_named reach Does s n new

-- what lies between two offsets, if there is anything
abbrev pub lies_between : ℕ → ℕ → Option (Range ℕ)
lies_between i j = if nat_lt j i then Some (between j i) else if nat_lt i j then Some (between i j) else None

-- what lies between an offset and where a text was found
abbrev pub spanned : ℕ → Option ℕ → Option (Range ℕ)
spanned from found = option_and_then (lies_between from) found

-- what is asked of a session with its cursor at an offset, which must be a boundary
abbrev pub AskedAt : {A : Type 0} → ℕ → (State → A) → State → Result A Answer → Type 0
AskedAt from asks s (Ok found) = IsCharBoundary s.line.text from × (found ≡ asks (with_cursor from s))
AskedAt from asks s (Err why) = (¬ (IsCharBoundary s.line.text from)) × (why ≡ BadOffset)

-- what a movement covers from an offset
abbrev pub covers_by : ℕ → State → Result Reach Answer → Result (Option (Range ℕ)) Answer → Type 0
covers_by from s (Err why) result = result ≡ Err why
covers_by from s (Ok (By m)) result = AskedAt from (λ (s : State). covered s.line m) s result
covers_by from s (Ok (To found)) result = result ≡ Ok (spanned from found)

unfoldable pub Covers : ℕ → CMovement → State → Result (Option (Range ℕ)) Answer → Type 0
Covers from m s result = (reach : Result Reach Answer) × Reaches from m s reach × covers_by from s reach result

-- where a movement leads from an offset
abbrev pub leads_by : ℕ → State → Result Reach Answer → Result (Option ℕ) Answer → Type 0
leads_by from s (Err why) result = result ≡ Err why
leads_by from s (Ok (By m)) result = AskedAt from (λ (s : State). destination s m) s result
leads_by from s (Ok (To found)) result = result ≡ Ok found

unfoldable pub Leads : ℕ → CMovement → State → Result (Option ℕ) Answer → Type 0
Leads from m s result = (reach : Result Reach Answer) × Reaches from m s reach × leads_by from s reach result
