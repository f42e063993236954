-- What a kill by a movement takes begins at the cursor, or ends there.
use Rattle.rl_line.proofs.Common.{At, Backward, BackwardWord, BeginningOfBuffer, BeginningOfLine, Bool, CharSearch, Direction, EndOfBuffer, EndOfLine, FirstNonBlank, Forward, ForwardWord, HitLies, IfSome, IsCharBoundary, IsUtf8, Line, List, None, Option, Range, Some, ViCharSearch, Word, arith, between, chosen_hit, cond, either_way, false, first_nonblank, from_place, killed, length, option_map, prev_word, refl, side_of_place, side_of_search, to_hit, to_place, true, ℕ, ◌==◌, ◌≡◌, ◌≤◌}
use Rattle.rl_base.proofs.Clusters.SearchLemmas.{IsHitOf, chosen_hit-is}
use Rattle.rl_base.proofs.Clusters.WordLemmas.{IsBefore-start_before}
use Rattle.rl_base.proofs.Texts.LineLemmas.{start-before}
use Rattle.rl_base.specs.declared.motion.CharSearch.TheVariants as to

-- the range lies on that side of the place, and touches it
abbrev pub LiesOn : Direction → ℕ → Range ℕ → Type 0
LiesOn Forward pos r = r.start ≡ pos
LiesOn Backward pos r = (r.end ≡ pos) × (r.start ≤ pos)

unless : {A : Type 0} (P : A → Type 0) (b : Bool) (x : A) → P x → IfSome (cond b None (Some x)) P
unless P true x h = tt
unless P false x h = h

mapped : {A B : Type 0} (P : A → Type 0) (Q : B → Type 0) (f : A → B) (o : Option A) → ((x : A) → P x → Q (f x)) → IfSome o P → IfSome (option_map f o) Q
mapped P Q f None h k = tt
mapped P Q f (Some x) h k = h x k

from_place-side : (line : Line) (o : Option ℕ) → IfSome o (λ q. q ≤ line.cursor) → IfSome (from_place line o) (LiesOn Backward line.cursor)
from_place-side line o h = mapped (λ q. q ≤ line.cursor) (LiesOn Backward line.cursor) (λ q. between q line.cursor) o (λ q k. (refl, k)) h

to_place-side : (line : Line) (o : Option ℕ) → IfSome (to_place line o) (LiesOn Forward line.cursor)
to_place-side line None = tt
to_place-side line (Some q) = refl

-- where a word before the cursor starts is not past it
prev_word-before : (text : List ℕ) (pos : ℕ) (word : Word) (n : ℕ) → IsUtf8 text → IsCharBoundary text pos → IfSome (prev_word text pos word n) (λ q. q ≤ pos)
prev_word-before text pos word n u at = unless (λ q. q ≤ pos) (pos == 0) _ (IsBefore-start_before text pos word n u at).before

hit-side : (cs : CharSearch) (pos hit : ℕ) → HitLies cs pos hit → LiesOn (side_of_search cs) pos (to_hit cs pos hit)
hit-side (to.Forward c) pos hit h = refl
hit-side (to.ForwardBefore c) pos hit h = refl
hit-side (to.Backward c) pos hit h = (refl, omega arith)
hit-side (to.BackwardAfter c) pos hit h = (refl, h)

either_way-side : (line : Line) (place : ℕ) → IfSome (either_way line place) (LiesOn (side_of_place line place) line.cursor)
either_way-side line place = grind arith

-- the range of each movement
pub BeginningOfLine-side : (line : Line) → line.cursor ≤ length line.text → IfSome (killed line BeginningOfLine) (LiesOn Backward line.cursor)
BeginningOfLine-side line within = grind (arith, start-before)

pub EndOfLine-side : (line : Line) → IfSome (killed line EndOfLine) (LiesOn Forward line.cursor)
EndOfLine-side line = grind arith

pub FirstNonBlank-side : (line : Line) → IfSome (killed line FirstNonBlank) (LiesOn (side_of_place line (first_nonblank line)) line.cursor)
FirstNonBlank-side line = either_way-side line (first_nonblank line)

pub BackwardWord-side : (line : Line) (n : ℕ) (word : Word) → IsUtf8 line.text → IsCharBoundary line.text line.cursor
    → IfSome (killed line (BackwardWord n word)) (LiesOn Backward line.cursor)
BackwardWord-side line n word u at = from_place-side line (prev_word line.text line.cursor word n) (prev_word-before line.text line.cursor word n u at)

pub ForwardWord-side : (line : Line) (n : ℕ) (at : At) (word : Word) → IfSome (killed line (ForwardWord n at word)) (LiesOn Forward line.cursor)
ForwardWord-side line n at word = to_place-side line _

pub ViCharSearch-side : (line : Line) (n : ℕ) (cs : CharSearch) → IsUtf8 line.text → IsCharBoundary line.text line.cursor
    → IfSome (killed line (ViCharSearch n cs)) (LiesOn (side_of_search cs) line.cursor)
ViCharSearch-side line n cs u at =
    mapped (IsHitOf line.text line.cursor cs) (LiesOn (side_of_search cs) line.cursor) (to_hit cs line.cursor) (chosen_hit line.text line.cursor cs n)
    (λ hit h. hit-side cs line.cursor hit h.side) (chosen_hit-is line.text line.cursor cs n u at)

pub BeginningOfBuffer-side : (line : Line) → IfSome (killed line BeginningOfBuffer) (LiesOn Backward line.cursor)
BeginningOfBuffer-side line = unless (LiesOn Backward line.cursor) (0 == line.cursor) (between 0 line.cursor) (refl, omega arith)

pub EndOfBuffer-side : (line : Line) → IfSome (killed line EndOfBuffer) (LiesOn Forward line.cursor)
EndOfBuffer-side line = unless (LiesOn Forward line.cursor) (line.cursor == length line.text) (between line.cursor (length line.text)) refl
