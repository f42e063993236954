-- What copying, deleting and killing by a movement do.
use Rattle.rl_base.specs.Event.{Delete, Event, Start, Stop}
use Rattle.rl_base.specs.declared.listeners.Direction.{Direction}
use Rattle.rl_base.specs.declared.listeners.Direction.TheVariants.{Backward, Forward}
use Rattle.rl_base.specs.declared.listeners.Refusal.{Refusal}
use Rattle.rl_base.specs.declared.motion.CharSearch.{CharSearch}
use Rattle.rl_base.specs.declared.motion.Movement.{Movement}
use Rattle.rl_base.specs.declared.motion.Movement.TheVariants.{BackwardChar, BackwardWord, BeginningOfBuffer, BeginningOfLine, EndOfBuffer, EndOfLine, FirstNonBlank, ForwardChar, ForwardWord, ViCharSearch, ViFirstPrint, WholeLine}
use Rattle.rl_line.specs.Line.{Line}
use Rattle.rl_line.specs.LineMotions.{first_nonblank}
use Rattle.rl_line.specs.Plan.{Done, Halted, Plan, answering, nothing, single}
use Rattle.rl_line.specs.Ranges.{covered, killed, text_in, unless_empty}
use Rattle.std.specs.Option.{option_map}
use Rattle.std.specs.Prelude.{Bool, List, MatchResult, None, Option, Result, Some, String, false, if◌then◌else◌, nat_lt, true, ℕ, ◌≡◌}
use Rattle.std.specs.Result.{result_map_both}
use Rattle.std.specs.String.{string_bytes}
use Rattle.std.specs.declared.alloc.Global.{Global}
use Rattle.std.specs.declared.ops.Range.{Range}
use Rattle.rl_base.specs.declared.motion.CharSearch.TheVariants as to

-- what a movement copies
abbrev pub copied : Line → Movement → Option (List ℕ)
copied line mvt = option_map (text_in line) (covered line mvt)

-- the side of the cursor on which a place lies
abbrev pub side_of_place : Line → ℕ → Direction
side_of_place line place = if nat_lt place line.cursor then Backward else Forward

-- the side of the cursor that a search, and a movement, takes text from
abbrev pub side_of_search : CharSearch → Direction
side_of_search (to.Backward _) = Backward
side_of_search (to.BackwardAfter _) = Backward
side_of_search _ = Forward

abbrev pub side_of : Line → Movement → Direction
side_of line BeginningOfLine = Backward
side_of line (BackwardWord _ _) = Backward
side_of line (ViCharSearch _ cs) = side_of_search cs
side_of line FirstNonBlank = side_of_place line (first_nonblank line)
side_of line (BackwardChar _) = Backward
side_of line BeginningOfBuffer = Backward
side_of line _ = Forward

-- the movements that kill exactly what they copy
abbrev pub is_exact : Movement → Bool
is_exact WholeLine = false
is_exact BeginningOfLine = false
is_exact EndOfLine = false
is_exact ViFirstPrint = false
is_exact _ = true

-- a range goes, if there is one, and the cursor is at its start. The answer: was there one?
abbrev pub removal : Line → Option (Range ℕ) → Direction → Plan Bool
removal line None side = nothing line false
removal line (Some r) side = single (Delete r.start (text_in line r) side) r.start true

-- what a movement kills goes
abbrev pub kill_plan : Line → Movement → Plan Bool
kill_plan line mvt = removal line (killed line mvt) (side_of line mvt)

-- the movements to one side of the cursor by which an editor deletes and tells no kill
abbrev pub CanDeleteBy : Movement → Type 0
CanDeleteBy BeginningOfLine = Unit {0}
CanDeleteBy EndOfLine = Unit {0}
CanDeleteBy (BackwardWord _ _) = Unit {0}
CanDeleteBy (ForwardWord _ _ _) = Unit {0}
CanDeleteBy (ViCharSearch _ _) = Unit {0}
CanDeleteBy BeginningOfBuffer = Unit {0}
CanDeleteBy EndOfBuffer = Unit {0}
CanDeleteBy _ = ⊥

-- what stands between two places goes
abbrev pub kill_range_plan : Line → ℕ → ℕ → Direction → Plan Bool
kill_range_plan line i j side = removal line (unless_empty i j) side

-- what a movement kills goes, and the answer is its text
abbrev pub delete_plan : Line → ℕ → Plan (Option (List ℕ))
delete_plan line n = answering (copied line (ForwardChar n)) (kill_plan line (ForwardChar n))

-- a kill by characters is told as a deletion, without the start and the end of a kill
abbrev pub is_by_characters : Movement → Bool
is_by_characters (BackwardChar _) = true
is_by_characters (ForwardChar _) = true
is_by_characters _ = false

-- a listener heard the start of a kill, then what P says of it, then the end of the kill
pub record Between {L : Type 0} (step : L → Event → L) (P : L → L → Type 0) (before now : L) : Type 0 where
  pub last : L
  pub inside : P (step before Start) last
  pub ended : now ≡ step last Stop

-- what a listener heard of a kill in which P says what it heard of the deletion
abbrev pub Told : {L : Type 0} → (L → Event → L) → Bool → (L → L → Type 0) → L → L → Type 0
Told step true P = P
Told step false P = Between step P

-- what a kill comes to, of which the listener is told that way
abbrev pub ToldOutcome : {L A : Type 0} → (L → Event → L) → (L → Event → Refusal → L → Type 0) → Bool → Plan A → Line → Line → L → L → Result A Refusal → Type 0
ToldOutcome step refused by_characters plan old new before now result = MatchResult result
    (λ answer. Told step by_characters (λ b n. Done step plan old new b n answer) before now)
    (λ r. Told step by_characters (λ b n. Halted step refused plan old new b n r) before now)

-- what a deletion that hands out its text answers, in bytes
abbrev pub texts_of : Result (Option (String Global)) Refusal → Result (Option (List ℕ)) Refusal
texts_of result = result_map_both (option_map string_bytes) (λ r. r) result
