-- What a question about a record answers, once it was found on a copy of the text whether a line can go over the entries.
use Rattle.rl_record.proofs.Common.{Ahead, Back, Bool, Change, Entry, Err, IfOk, IsSome, Line, List, Ok, Refusal, Result, Tries, Way, [], ap, arith, bytes_back, entries_to_undo, entry_of, entry_to_undo, get_or, has_change, is_some, last_of, length, length-map, line_ahead, line_back, map, open_group, redo_of, refl, sym, true, ℕ, ◌+◌, ◌<◌, ◌∙◌, ◌∷◌, ◌≡◌}
use Rattle.rl_line.proofs.Changes.BackLemmas.{line_back-is_some}
use Rattle.rl_line.proofs.Changes.ChangeLemmas.{ahead-inverse}
use Rattle.rl_line.proofs.Changes.RoomLemmas.{bytes_ahead-back}
use Rattle.rl_record.proofs.Records.AbandonLemmas.{abandon-fits}
use Rattle.rl_record.proofs.Records.MoveLemmas.{GoesAs-all, marks-lead, redo-fits, undo-fits}

-- one change alone
pub lone : (way : Way) (xs : List Change) (x : Change) → length xs ≡ 1 → x ≡ get_or xs 0 x → entries_to_undo way xs ≡ entry_to_undo way x ∷ []
lone way [] x len e = cc
lone Back (y ∷ []) x len e = ap (λ z. entry_to_undo Back z ∷ []) (sym e)
lone Ahead (y ∷ []) x len e = ap (λ z. entry_to_undo Ahead z ∷ []) (sym e)
lone way (y ∷ z ∷ zs) x len e = cc

pub tries : (way : Way) (xs : List Change) (text : List ℕ) → 1 < length xs → has_change (map entry_of xs) ≡ true → 0 < length text + bytes_back (entries_to_undo way xs)
    → Tries way (map entry_of xs) text
tries Back xs text several some more = (omega (arith, several, length-map xs entry_of), (some, more))
tries Ahead xs text several some more =
    (omega (arith, several, length-map xs entry_of), (some, omega (arith, more, ap bytes_back (ahead-inverse xs) ∙ bytes_ahead-back (map entry_of xs))))

-- entries with a change, which are not one, are several
pub several : (xs : List Change) → has_change (map entry_of xs) ≡ true → ¬ (length xs ≡ 1) → 1 < length xs
several [] h alone = cc
several (x ∷ []) h alone = absurd (alone refl)
several (x ∷ y ∷ xs) h alone = omega arith

-- a line that can go over all can go over the units that are next
pub all-units : (result : Result Bool Refusal) (es : List Entry) (line : Line) → IfOk result (λ a. a ≡ is_some (line_back es line))
    → IfOk result (λ a. a ≡ true → (n : ℕ) → IsSome (line_back (last_of n es) line))
all-units (Ok a) es line h = λ yes n. undo-fits n es line (sym h ∙ yes)
all-units (Err r) es line h = h

pub open-unit : (result : Result Bool Refusal) (es : List Entry) (line : Line) → IfOk result (λ a. a ≡ is_some (line_back es line))
    → IfOk result (λ a. a ≡ true → IsSome (line_back (open_group es) line))
open-unit (Ok a) es line h = λ yes. abandon-fits es line (sym h ∙ yes)
open-unit (Err r) es line h = h

pub next-unit : (result : Result Bool Refusal) (es : List Entry) (line : Line) → IfOk result (λ a. a ≡ is_some (line_ahead es line))
    → IfOk result (λ a. a ≡ true → IsSome (line_ahead (redo_of es) line))
next-unit (Ok a) es line h = λ yes. redo-fits es line (sym h ∙ yes)
next-unit (Err r) es line h = h

pub ruleset leads = (all-units, next-unit, open-unit)

pub ruleset led = (lone, several, tries, GoesAs-all, marks-lead, line_back-is_some)
