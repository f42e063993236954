-- The plans of killing and deleting by a movement, by their cases.
use Rattle.rl_line.proofs.Common.{BackwardChar, BackwardWord, BeginningOfBuffer, BeginningOfLine, Bool, Delete, Direction, Done, EndOfBuffer, EndOfLine, Err, Event, FirstNonBlank, Forward, ForwardChar, ForwardWord, Halted, Line, LineDown, LineUp, List, Movement, None, Ok, Option, Outcome, Plan, Range, Refusal, Result, Some, Start, Stop, Told, ToldOutcome, ViCharSearch, ViFirstPrint, WholeBuffer, WholeLine, WholeLinesDown, WholeLinesUp, [], answering, ap, covered, delete_plan, false, is_exact, killed, nothing, nothing_more, option_map, refl, removal, same_Some, single, subst, sym, text_in, true, ℕ, ◌∙◌, ◌∷◌, ◌≡◌}
use Rattle.rl_line.proofs.Plans.PlanLemmas.{Done-nothing, Done-single, Halted-at_first}

pub delete_plan-nothing : (line : Line) (n : ℕ) → None ≡ covered line (ForwardChar n) → delete_plan line n ≡ nothing line None
delete_plan-nothing line n e = ap (λ (o : Option (Range ℕ)). answering (option_map (text_in line) o) (removal line o Forward)) (sym e)

pub delete_plan-some : (line : Line) (n : ℕ) (r : Range ℕ) (gone : List ℕ) → Some r ≡ covered line (ForwardChar n) → gone ≡ text_in line r
    → delete_plan line n ≡ single (Delete r.start (text_in line r) Forward) r.start (Some gone)
delete_plan-some line n r gone e f =
    ap (λ (o : Option (Range ℕ)). answering (option_map (text_in line) o) (removal line o Forward)) (sym e)
    ∙ ap (λ (t : List ℕ). single (Delete r.start (text_in line r) Forward) r.start (Some t)) (sym f)

module _ {L : Type 0} (step : L → Event → L) (before first last now : L) (start : first ≡ step before Start) (stop : now ≡ step last Stop) where
  Told-between : (by_characters : Bool) (P : L → L → Type 0) → by_characters ≡ false → P first last → Told step by_characters P before now
  Told-between by_characters P e h = rw e record { last = last; inside = subst (λ (l : L). P l last) start h; ended = stop }

  pub ToldOutcome-between : {A : Type 0} (refused : L → Event → Refusal → L → Type 0) (by_characters : Bool) (plan : Plan A) (old new : Line) (result : Result A Refusal) → by_characters ≡ false
      → Outcome step refused nothing_more plan old new first last result → ToldOutcome step refused by_characters plan old new before now result
  ToldOutcome-between refused by_characters plan old new (Ok a) e d = Told-between by_characters (λ b n. Done step plan old new b n a) e d
  ToldOutcome-between refused by_characters plan old new (Err r) e h = Told-between by_characters (λ b n. Halted step refused plan old new b n r) e h

-- what can't be inside can't be told
pub Told-never : {L : Type 0} (step : L → Event → L) (by_characters : Bool) (P : L → L → Type 0) (before now : L) → ((b n : L) → P b n → ⊥) → Told step by_characters P before now → ⊥
Told-never step true P before now never h = never before now h
Told-never step false P before now never h = never _ _ h.inside

pub killed-exact : (line : Line) (mvt : Movement) → is_exact mvt ≡ true → killed line mvt ≡ covered line mvt
killed-exact line WholeLine e = absurd (cc e)
killed-exact line BeginningOfLine e = absurd (cc e)
killed-exact line EndOfLine e = absurd (cc e)
killed-exact line (BackwardWord n word) e = refl
killed-exact line (ForwardWord n at word) e = refl
killed-exact line (ViCharSearch n cs) e = refl
killed-exact line ViFirstPrint e = absurd (cc e)
killed-exact line FirstNonBlank e = refl
killed-exact line (BackwardChar n) e = refl
killed-exact line (ForwardChar n) e = refl
killed-exact line (LineUp n) e = refl
killed-exact line (LineDown n) e = refl
killed-exact line (WholeLinesUp n) e = refl
killed-exact line (WholeLinesDown n) e = refl
killed-exact line WholeBuffer e = refl
killed-exact line BeginningOfBuffer e = refl
killed-exact line EndOfBuffer e = refl

-- the step of a removal carries the text that a copy of the same range has
pub removal-text : (line : Line) (o : Option (Range ℕ)) (side : Direction) (s : List ℕ) → option_map (text_in line) o ≡ Some s
    → (place : ℕ) × ((removal line o side).steps ≡ (Delete place s side, place) ∷ [])
removal-text line None side s e = absurd (cc e)
removal-text line (Some r) side s e = (r.start, ap (λ t. (Delete r.start t side, r.start) ∷ []) (same_Some _ _ e))

pub ruleset kills = (ToldOutcome-between, killed-exact, removal-text)

pub ruleset deletions = (delete_plan-nothing, delete_plan-some, Done-nothing, Done-single, Halted-at_first)
