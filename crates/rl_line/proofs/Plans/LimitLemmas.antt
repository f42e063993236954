-- How long the text is on the way over steps, and the limit, which stays if the text is never longer.
use Rattle.rl_line.proofs.Common.{Bool, Delete, Entry, Event, InsertChar, InsertStr, IsUtf8, Line, List, Movement, Range, Replace, Some, Step, [], after, ap, arith, blanks, encode_utf8, event_of, exchange_plan, false, greatest_back_over, indent_plan, inverse, last_line, le-leb, leb, length, length-between, line_after, line_ahead, line_back, line_plan, lines, lines_plan, map, max, parts, pushed, put_spaces, refl, reverse, slice_range, spaces, start_of_line, stepped, sum, sum_by-cons, sym, true, ℕ, ◌*◌, ◌++◌, ◌+◌, ◌-◌, ◌∙◌, ◌∷◌, ◌≡◌, ◌≤◌}
use Rattle.rl_base.proofs.Texts.LineLemmas.{count_of_lines}
use Rattle.rl_base.proofs.Texts.SwapLemmas.{Swaps-Delete, Swaps-InsertChar, Swaps-InsertStr, Swaps-Replace, apply-IsUtf8}
use Rattle.rl_base.specs.Event.{apply}
use Rattle.rl_line.proofs.Changes.BackLemmas.{line_ahead-back, line_back-unwind}
use Rattle.rl_line.proofs.Changes.InverseLemmas.{through}
use Rattle.rl_line.proofs.Changes.RoomLemmas.{length-swapped, length_back_over-is}
use Rattle.rl_line.proofs.Plans.IndentLemmas.{length-spaces, sum-parts}
use Rattle.rl_line.proofs.Plans.PlanLemmas.{Fits-from, first_step}
use Rattle.rl_line.specs.Change.{greatest_ahead_over}
use Rattle.rl_line.specs.Edits.{replace_plan}
use Rattle.rl_line.specs.Indents.{final_line, first_line, indented_lines}
use Rattle.rl_line.specs.Plan.{longest, longest_by, resized}
use Rattle.rl_line.specs.Ranges.{indented}

resized-is : (event : Event) (text now : List ℕ) → IsUtf8 text → apply event text ≡ Some now → length now ≡ resized event (length text)
unfolding apply
resized-is (InsertChar i c) text now u h = omega (arith, length-swapped text now i [] (encode_utf8 c) (Swaps-InsertChar text now i c u h))
resized-is (InsertStr i s) text now u h = omega (arith, length-swapped text now i [] s (Swaps-InsertStr text now i s u h))
resized-is (Delete i s side) text now u h = omega (arith, length-swapped text now i s [] (Swaps-Delete text now i s side u h))
resized-is (Replace i s t) text now u h = length-swapped text now i s t (Swaps-Replace text now i s t u h)
resized-is _ text now u h = let e : text ≡ now = cc in ap length (sym e)

longest-from : (ss : List Step) (n : ℕ) → n ≤ longest ss n
longest-from [] n = omega arith
longest-from (s ∷ ss) n = omega arith

pub longest-front : (xs ys : List Step) (n : ℕ) → longest xs n ≤ longest (xs ++ ys) n
longest-front [] ys n = longest-from ys n
longest-front (x ∷ xs) ys n = omega (arith, longest-front xs ys (resized x.0 n))

-- ---- the limit stays
pub record SameLimit (old new : Line) : Type 0 where
  pub limit : new.limit ≡ old.limit
  pub grow : new.grow ≡ old.grow

pub SameLimit-same : (old new : Line) → new ≡ old → SameLimit old new
SameLimit-same old new e = record { limit = ap (λ (l : Line). l.limit) e; grow = ap (λ (l : Line). l.grow) e }

pub after-limit : (ss : List Step) (old new : Line) → IsUtf8 old.text → after ss old ≡ Some new → longest ss (length old.text) ≤ old.limit → SameLimit old new
after-limit [] old new u h le = SameLimit-same old new cc
after-limit (s ∷ ss) old new u h le =
    let b = first_step s ss old new h in
    let size = resized-is s.0 old.text b.text u b.makes in
    let stays : max old.limit (length b.text) ≡ old.limit = omega (arith, size, le, longest-from ss (resized s.0 (length old.text))) in
    let rest = after-limit ss (stepped old b.text s.1) new (apply-IsUtf8 s.0 old.text b.text u b.makes) b.rest (omega (arith, stays, ap (longest ss) size, le)) in
    record { limit = rest.limit ∙ stays; grow = rest.grow }

pub back-limit : (es : List Entry) (old new : Line) → IsUtf8 old.text → line_back es old ≡ Some new → greatest_back_over es (length old.text) ≤ old.limit → SameLimit old new
back-limit [] old new u h le = SameLimit-same old new cc
back-limit (e ∷ es) old new u h le =
    let p = through (line_after (inverse e)) (line_back es old) new h in
    let f = Fits-from (event_of (inverse e)) _ p.0 new p.2 in
    let so_far = back-limit es old p.0 u p.1 (omega (arith, le)) in
    let size = length_back_over-is (e ∷ es) old.text new.text u (line_back-unwind (e ∷ es) old new h) in
    record {
      limit = ap (λ (l : Line). l.limit) f.is ∙ omega (arith, so_far.limit, size, ap (λ (l : Line). length l.text) f.is, le);
      grow = ap (λ (l : Line). l.grow) f.is ∙ so_far.grow;
    }

pub ahead-limit : (es : List Entry) (old new : Line) → IsUtf8 old.text → line_ahead es old ≡ Some new → greatest_ahead_over es (length old.text) ≤ old.limit → SameLimit old new
ahead-limit es old new u h le = back-limit (map inverse (reverse es)) old new u (line_ahead-back es old ∙ h) le

-- ---- an indent: each step makes the text longer by its spaces, and a dedent makes it shorter
longest-put : (ps : List ℕ) (i cursor : ℕ) (rest : List Step) (n : ℕ) → longest (put_spaces ps i cursor ++ rest) n ≡ longest rest (n + sum ps)
longest-put [] i cursor rest n = ap (longest rest) (omega arith)
longest-put (p ∷ ps) i cursor rest n =
    let more : n + length (spaces p) + sum ps ≡ n + sum (p ∷ ps) = omega (arith, length-spaces p, sum_by-cons (λ x. x) p ps) in
    let others = longest-put ps i (pushed i p cursor) rest (n + length (spaces p)) in
    omega (arith, others, ap (longest rest) more, more, longest-from rest (n + sum (p ∷ ps)))

longest-indent : (k : ℕ) (texts : List (List ℕ)) (i cursor n : ℕ) → longest (lines_plan false k texts i cursor).steps n ≡ n + k * length texts
longest-indent k [] i cursor n = omega arith
longest-indent k (t ∷ ts) i cursor n =
    let next = i + length t + k + 1 in
    let at = pushed i k cursor in
    let rest = (lines_plan false k ts next at).steps in
    longest-put (parts k) i cursor rest n ∙ ap (λ m. longest rest (n + m)) (sum-parts k) ∙ longest-indent k ts next at (n + k) ∙ omega arith

longest-dedent : (k : ℕ) (texts : List (List ℕ)) (i cursor n : ℕ) → longest (lines_plan true k texts i cursor).steps n ≡ n
longest-dedent k [] i cursor n = refl
longest-dedent k (t ∷ ts) i cursor n =
    let one = line_plan true k t i cursor in
    let gone = length (blanks k t) in
    omega (arith, longest-dedent k ts (one.answer + 1) one.cursor (n - gone))

pub spaces-longest : (line : Line) (m : Movement) (k : ℕ) (ks : Range ℕ) → ks ≡ indented_lines line m → ks.end ≤ last_line line.text + 1
    → longest_by line (indent_plan line m k false) ≡ length line.text + k * (ks.end - ks.start)
spaces-longest line m k ks e within =
    let all = lines line.text in
    let longest_at = λ (r : Range ℕ). longest_by line (lines_plan false k (slice_range all r.start r.end) (start_of_line line.text r.start) line.cursor) in
    ap longest_at (sym e) ∙ longest-indent k (slice_range all ks.start ks.end) (start_of_line line.text ks.start) line.cursor (length line.text)
    ∙ ap (λ n. length line.text + k * n) (length-between all ks.start ks.end (omega (arith, within, count_of_lines line.text)))

pub dedents-fit : (line : Line) (m : Movement) (k : ℕ) (dedent : Bool) → dedent ≡ true → length line.text ≤ line.limit → true ≡ leb (longest_by line (indent_plan line m k dedent)) line.limit
dedents-fit line m k dedent e within =
    let first = first_line line.text (indented line m) in
    let texts = slice_range (lines line.text) first (final_line line.text (indented line m) + 1) in
    let is = ap (λ b. longest_by line (indent_plan line m k b)) e ∙ longest-dedent k texts (start_of_line line.text first) line.cursor (length line.text) in
    sym (le-leb _ line.limit (omega (arith, is, within)))

-- ---- a word that is replaced in two steps is no longer on the way than one replaced in one
pub longest-exchange : (line : Line) (word : Range ℕ) (p q : ℕ) (made : List ℕ) → longest_by line (exchange_plan line word p made q) ≡ longest_by line (replace_plan line word.start word.end made)
longest-exchange line word p q made = omega arith
