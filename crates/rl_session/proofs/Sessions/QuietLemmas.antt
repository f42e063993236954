-- What the plans of the edits do with the cursor: a step that adds no entry leaves it, and a plan ends where its last step leaves it.
use Rattle.rl_session.proofs.Common.{IsCharBoundary-start, ◌≡◌, ℕ, ◌+◌, ◌-◌, ◌*◌, ◌==◌, ◌||◌, ◌≤◌, ◌<◌, Bool, true, false, zero, suc, List, [], ◌∷◌, ◌++◌, length, slice_range, take, drop, take_at, false-eqb, slice_get, reverse, length-append, Option, Some, None, refl, sym, ap, subst, ◌∙◌, cond, eqb-true, arith, sum, length-between, nat_tests, sum_by-cons, encode_utf8, option_and_then, unwrap_or, All, remove_range, repeat, Range, Event, InsertChar, InsertStr, Replace, Direction, Forward, Movement, insert_event, insert_plan, insert_str_plan, replace_plan, too_long, update_plan, yank_plan, yank_pop_plan, indent_plan, line_plan, lines_plan, parts, pulled, pushed, put_spaces, spaces, word_ahead, delete_plan, kill_plan, removal, side_of, Line, between, stepped, Plan, answering, single, text_in, to_place, Entry, cond_both, length_push, reverse-append, reverse-reverse, length-take-le, length-drop, All-head, All-weaker, same_Some, IsUtf8-take, IsUtf8-drop, IsCharBoundary-end, IsCharBoundary-from_rest, IfSome, option_map, option_or, IsCharBoundary, IsUtf8, clusters, bytes_in, next_pos, prev_pos, PlacedCluster, first_member, next_stop, nth, placed_clusters, Emacs, are_two, clusters_around, first_word, meeting_place, pulled_back, second_word, swap_plan, transpose_chars_plan, transpose_words_plan, word_end, word_start}
use Rattle.rl_line.proofs.Plans.IndentLemmas.{length-spaces, pushed-none, pushed-pushed, sum-parts}
use Rattle.rl_base.specs.Event.{Delete}
use Rattle.rl_line.proofs.Plans.EditLemmas.{length-repeat}
use Rattle.rl_session.proofs.Runs.CursorLemmas.{IsLone, Quiet, ends_at}
use Rattle.rl_line.specs.Plan.{Step, nothing}
use Rattle.rl_line.specs.Ranges.{killed}
use Rattle.rl_record.specs.Record.{entries_of}
use Rattle.rl_base.specs.Words.{stops}
use Rattle.rl_base.specs.declared.motion.At.TheVariants as stop_at
use Rattle.rl_base.proofs.Texts.LineLemmas.{few-from_none, IsCharBoundary-nth, place-of_nth}
use Rattle.rl_base.proofs.Clusters.ClusterLemmas.{bytes_in-append, bytes_in-clusters}
use Rattle.rl_base.proofs.Clusters.WordLemmas.{All-reverse, All-stops, IsCharBoundary-member, IsCharBoundary-stop, nth-is_or, prev_word-some, start_before}
use Rattle.rl_line.proofs.Changes.InverseLemmas.{through}
use Rattle.std.proofs.lemmas.Grind.{common_steps}

-- the plan's steps are quiet, and it ends where its last step leaves the cursor
pub record Settles {A : Type 0} (line : Line) (plan : Plan A) : Type 0 where
  pub quiet : Quiet line.cursor plan.steps
  pub ends : (plan.steps ≡ [] → ⊥) → plan.cursor ≡ ends_at line.cursor plan.steps

-- ---- an event that adds no entry is one of an empty text
none-empty : (s : List ℕ) (e : Entry) → cond (length s == 0) [] (e ∷ []) ≡ [] → length s ≡ 0
none-empty s e = cond_both (length s == 0) [] (e ∷ []) (λ es. es ≡ [] → length s ≡ 0) (λ yes h. eqb-true (length s) 0 yes) (λ no h. cc)

pub empty-inserted : (i : ℕ) (s : List ℕ) → entries_of (InsertStr i s) ≡ [] → length s ≡ 0
unfolding entries_of
empty-inserted i s e = none-empty s _ e

pub empty-deleted : (i : ℕ) (s : List ℕ) (side : Direction) → entries_of (Delete i s side) ≡ [] → length s ≡ 0
unfolding entries_of
empty-deleted i s side e = none-empty s _ e

pub never-char : (i c : ℕ) → entries_of (InsertChar i c) ≡ [] → ⊥
unfolding entries_of
never-char i c e = cc

pub never-replaced : (i : ℕ) (s t : List ℕ) → entries_of (Replace i s t) ≡ [] → ⊥
unfolding entries_of
never-replaced i s t e = cc

pub Settles-nothing : {A : Type 0} (line : Line) (a : A) → Settles line (nothing line a)
Settles-nothing line a = record { quiet = tt; ends = λ some. absurd (some refl) }

-- one step ends where it leaves the cursor
Settles-single : {A : Type 0} (line : Line) (event : Event) (cursor : ℕ) (a : A) → (entries_of event ≡ [] → cursor ≡ line.cursor) → IsLone event [] → Settles line (single event cursor a)
Settles-single line event cursor a same lone = record { quiet = (same, lone, tt); ends = λ some. refl }

-- ---- what is put in
inserted-still : (i c n cursor : ℕ) → entries_of (insert_event i c n) ≡ [] → cursor + length (encode_utf8 c) * n ≡ cursor
inserted-still i c n cursor = grind (arith, never-char, length-repeat, empty-inserted)

pub Settles-insert : (line : Line) (c n : ℕ) → Settles line (insert_plan line c n)
Settles-insert line c n =
    cond_both (too_long line (length line.text + length (encode_utf8 c) * n)) _ _ (Settles line) (λ e. Settles-nothing line None)
    (λ e. Settles-single line (insert_event line.cursor c n) (line.cursor + length (encode_utf8 c) * n) _ (inserted-still line.cursor c n line.cursor) (cond_both (n == 1) _ _ (λ event. IsLone event []) (λ e. tt) (λ e. tt)))

yanked-still : (i n cursor : ℕ) (s : List ℕ) → entries_of (InsertStr i (repeat n s)) ≡ [] → cursor + length s * n ≡ cursor
yanked-still i n cursor s e = omega (arith, length-repeat n s, empty-inserted i (repeat n s) e)

pub Settles-yank : (line : Line) (s : List ℕ) (n : ℕ) → Settles line (yank_plan line s n)
Settles-yank line s n =
    cond_both ((length s == 0) || too_long line (length line.text + length s * n)) _ _ (Settles line) (λ e. Settles-nothing line None)
    (λ e. Settles-single line (InsertStr line.cursor (repeat n s)) (line.cursor + length s * n) _ (yanked-still line.cursor n line.cursor s) tt)

pub Settles-insert_str : (line : Line) (i : ℕ) (s : List ℕ) → Settles line (insert_str_plan line i s)
Settles-insert_str line i s = Settles-single line (InsertStr i s) line.cursor _ (λ e. refl) tt

pub Settles-replace : (line : Line) (i j : ℕ) (s : List ℕ) → Settles line (replace_plan line i j s)
Settles-replace line i j s =
    Settles-single line (Replace i (slice_range line.text i j) s) (i + length s) tt (λ e. absurd (never-replaced i (slice_range line.text i j) s e)) refl

-- ---- what is taken out: an empty range may be taken out at another place than the cursor's, which moves the cursor there
-- a range that is removed is at the cursor, or it is not empty
abbrev pub MovesBy : Line → Option (Range ℕ) → Type 0
MovesBy line None = Unit {0}
MovesBy line (Some r) = length (text_in line r) ≡ 0 → r.start ≡ line.cursor

pub Settles-removal : (line : Line) (range : Option (Range ℕ)) (side : Direction) → MovesBy line range → Settles line (removal line range side)
Settles-removal line None side h = Settles-nothing line false
Settles-removal line (Some r) side h = Settles-single line (Delete r.start (text_in line r) side) r.start true (λ e. h (empty-deleted r.start (text_in line r) side e)) tt

pub Settles-kill : (line : Line) (m : Movement) → MovesBy line (killed line m) → Settles line (kill_plan line m)
Settles-kill line m h = Settles-removal line (killed line m) (side_of line m) h

MovesBy-to_place : (line : Line) (place : Option ℕ) → MovesBy line (to_place line place)
MovesBy-to_place line None = tt
MovesBy-to_place line (Some q) = λ e. refl

pub Settles-delete : (line : Line) (n : ℕ) → Settles line (delete_plan line n)
Settles-delete line n = grind (arith, Settles-kill, MovesBy-to_place)

pub Settles-yank_pop : (line : Line) (z : ℕ) (s : List ℕ) → line.cursor ≤ length line.text → Settles line (yank_pop_plan line z s)
Settles-yank_pop line z s within =
    let from = line.cursor - z in
    let gone = slice_range line.text from line.cursor in
    let rest = Settles-yank (stepped line (remove_range line.text from line.cursor) from) s 1 in
    record {
      quiet = (λ e. omega (arith, length-between line.text from line.cursor within, empty-deleted from gone Forward e), tt, rest.quiet);
      ends = λ some. yank-end (stepped line (remove_range line.text from line.cursor) from) s 1;
    }
  where
    yank-end : (line : Line) (s : List ℕ) (n : ℕ) → (yank_plan line s n).cursor ≡ ends_at line.cursor (yank_plan line s n).steps
    yank-end line s n = cond_both ((length s == 0) || too_long line (length line.text + length s * n)) _ _ (λ (p : Plan (Option Bool)). p.cursor ≡ ends_at line.cursor p.steps) (λ e. refl) (λ e. refl)

pub Settles-update : (line : Line) (s : List ℕ) (q : ℕ) → line.cursor ≤ length line.text → Settles line (update_plan line s q)
Settles-update line s q within = grind (arith, length-between, empty-deleted, empty-inserted)

-- ---- indents
-- steps of which none is a replacement
abbrev Open : List Step → Type 0
Open [] = Unit {0}
Open (s ∷ ss) = ((later : List Step) → IsLone s.0 later) × Open ss

Quiet-append : (cursor : ℕ) (ss ts : List Step) → Open ss → Quiet cursor ss → Quiet (ends_at cursor ss) ts → Quiet cursor (ss ++ ts)
Quiet-append cursor [] ts o q r = r
Quiet-append cursor (s ∷ ss) ts o q r = (q.0, o.0 (ss ++ ts), Quiet-append s.1 ss ts o.1 q.2 r)

ends_at-append : (cursor : ℕ) (ss ts : List Step) → ends_at cursor (ss ++ ts) ≡ ends_at (ends_at cursor ss) ts
ends_at-append cursor [] ts = refl
ends_at-append cursor (s ∷ ss) ts = ends_at-append s.1 ss ts

Open-put_spaces : (sizes : List ℕ) (i cursor : ℕ) → Open (put_spaces sizes i cursor)
Open-put_spaces [] i cursor = tt
Open-put_spaces (n ∷ more) i cursor = (λ later. tt, Open-put_spaces more i (pushed i n cursor))

pushed-still : (i n cursor : ℕ) → n ≡ 0 → pushed i n cursor ≡ cursor
pushed-still i n cursor none = ap (λ k. pushed i k cursor) none ∙ pushed-none i cursor

pulled-still : (i n cursor : ℕ) → n ≡ 0 → pulled i n cursor ≡ cursor
pulled-still i n cursor none = grind (arith, nat_tests)

Quiet-put_spaces : (sizes : List ℕ) (i cursor : ℕ) → Quiet cursor (put_spaces sizes i cursor)
Quiet-put_spaces [] i cursor = tt
Quiet-put_spaces (n ∷ more) i cursor =
    (λ e. pushed-still i n cursor (omega (arith, length-spaces n, empty-inserted i (spaces n) e)), tt, Quiet-put_spaces more i (pushed i n cursor))

ends-put_spaces : (sizes : List ℕ) (i cursor : ℕ) → ends_at cursor (put_spaces sizes i cursor) ≡ pushed i (sum sizes) cursor
ends-put_spaces [] i cursor = sym (pushed-none i cursor)
ends-put_spaces (n ∷ more) i cursor =
    ends-put_spaces more i (pushed i n cursor) ∙ pushed-pushed i n (sum more) cursor ∙ ap (λ k. pushed i k cursor) (sym (sum_by-cons (λ x. x) n more))

-- a plan from a cursor on whose steps are quiet, and that ends where they leave the cursor, even where there are none
record Goes {A : Type 0} (cursor : ℕ) (plan : Plan A) : Type 0 where
  quiet : Quiet cursor plan.steps
  ends : plan.cursor ≡ ends_at cursor plan.steps

Open-line : (dedent : Bool) (n : ℕ) (text : List ℕ) (i cursor : ℕ) → Open (line_plan dedent n text i cursor).steps
Open-line false n text i cursor = Open-put_spaces (parts n) i cursor
Open-line true n text i cursor = (λ later. tt, tt)

Goes-line : (dedent : Bool) (n : ℕ) (text : List ℕ) (i cursor : ℕ) → Goes cursor (line_plan dedent n text i cursor)
Goes-line false n text i cursor = grind (arith, Quiet-put_spaces, sum-parts, ends-put_spaces)
Goes-line true n text i cursor = grind (arith, pulled-still, empty-deleted)

Goes-lines : (dedent : Bool) (n : ℕ) (texts : List (List ℕ)) (i cursor : ℕ) → Goes cursor (lines_plan dedent n texts i cursor)
Goes-lines dedent n [] i cursor = record { quiet = tt; ends = refl }
Goes-lines dedent n (text ∷ more) i cursor =
    let one = line_plan dedent n text i cursor in
    let others = lines_plan dedent n more (one.answer + 1) one.cursor in
    let first = Goes-line dedent n text i cursor in
    let rest = Goes-lines dedent n more (one.answer + 1) one.cursor in
    record {
      quiet = Quiet-append cursor one.steps others.steps (Open-line dedent n text i cursor) first.quiet (subst (λ k. Quiet k others.steps) first.ends rest.quiet);
      ends = rest.ends ∙ ap (λ k. ends_at k others.steps) first.ends ∙ sym (ends_at-append cursor one.steps others.steps);
    }

pub Settles-indent : (line : Line) (m : Movement) (n : ℕ) (dedent : Bool) → Settles line (indent_plan line m n dedent)
Settles-indent line m n dedent =
    let all = Goes-lines dedent n _ _ line.cursor in
    record { quiet = all.quiet; ends = λ some. all.ends }

-- ---- clusters
-- no cluster of a text is empty, and each stands before the text's end
abbrev pub NoneEmpty : List ℕ → Type 0
NoneEmpty text = All (λ (p : List ℕ). 0 < length p) (clusters text)

abbrev pub NoneAtEnd : List ℕ → Type 0
NoneAtEnd text = All (λ (x : PlacedCluster). x.0 < length text) (placed_clusters text)

-- after a place that is not the end stands a cluster, which is not empty
next-some : (text : List ℕ) (q stop : ℕ) → NoneEmpty (drop q text) → IsUtf8 text → IsCharBoundary text q → next_pos text q 1 ≡ Some stop → 0 < length (slice_range text q stop)
next-some text q stop full u bound h =
    grind (arith, bytes_in-clusters, IsUtf8-drop, All-head, length-append, bytes_in-append, length-drop, false-eqb, same_Some, length-between)

-- the text may be cut before its last cluster
before-last : (text : List ℕ) (ps : List (List ℕ)) → IsUtf8 text → reverse (clusters text) ≡ ps → IsCharBoundary text (length text - bytes_in (take 1 ps))
before-last text [] u e = let same : length text ≡ length text - 0 = omega arith in subst (IsCharBoundary text) same (IsCharBoundary-end text)
before-last text (p ∷ ps) u e =
    let split : clusters text ≡ reverse ps ++ p ∷ [] = sym (reverse-reverse (clusters text)) ∙ ap reverse e ∙ reverse-append (p ∷ []) ps in
    let n = length (reverse ps) in
    let front : take n (clusters text) ≡ reverse ps = ap (take n) split ∙ take_at (reverse ps) (p ∷ []) n refl in
    let at : bytes_in (take n (clusters text)) ≡ length text - bytes_in (p ∷ []) =
    omega (arith, ap bytes_in front, bytes_in-clusters text u, ap bytes_in split, bytes_in-append (reverse ps) (p ∷ [])) in
    from n (slice_get (placed_clusters text) n) refl (omega (arith, ap length split, length_push (reverse ps) p)) at
  where
    from : (n : ℕ) (o : Option PlacedCluster) → slice_get (placed_clusters text) n ≡ o → n < length (clusters text)
        → bytes_in (take n (clusters text)) ≡ length text - bytes_in (p ∷ []) → IsCharBoundary text (length text - bytes_in (p ∷ []))
    from n None k lt at = absurd (omega (arith, lt, few-from_none 0 (clusters text) n k))
    from n (Some x) k lt at =
        let is : x.0 ≡ length text - bytes_in (p ∷ []) = omega (arith, place-of_nth 0 (clusters text) n x k, at) in
        subst (IsCharBoundary text) is (IsCharBoundary-nth text n x u k)

IsCharBoundary-last : (text : List ℕ) (pos q : ℕ) → IsUtf8 text → pos ≡ length text → prev_pos text pos 1 ≡ Some q → IsCharBoundary text q
IsCharBoundary-last text pos q u end h = grind (arith, common_steps, same_Some, before-last)

IsCharBoundary-meeting : (line : Line) (q : ℕ) → IsUtf8 line.text → IsCharBoundary line.text line.cursor → meeting_place line ≡ Some q → IsCharBoundary line.text q
IsCharBoundary-meeting line q u bound h = grind (arith, IsCharBoundary-last, eqb-true, same_Some)

around-some : (text : List ℕ) (q : ℕ) (around : ℕ × Range ℕ) → NoneEmpty (drop q text) → IsUtf8 text → IsCharBoundary text q → clusters_around text q ≡ Some around
    → 0 < length (slice_range text around.1.start around.1.end)
around-some text q around full u bound h = grind (arith, through, same_Some, next-some)

Settles-pulled_back : (line : Line) (around : Option (ℕ × Range ℕ)) → ((a : ℕ × Range ℕ) → around ≡ Some a → 0 < length (text_in line a.1)) → Settles line (pulled_back line around)
Settles-pulled_back line None some = Settles-nothing line false
Settles-pulled_back line (Some a) some = grind (arith, empty-deleted, empty-inserted)

pub Settles-transpose_chars : (line : Line) → ((text : List ℕ) → NoneEmpty text) → IsUtf8 line.text → IsCharBoundary line.text line.cursor → Settles line (transpose_chars_plan line)
Settles-transpose_chars line full u bound =
    Settles-pulled_back line (option_and_then (clusters_around line.text) (meeting_place line))
    (λ a e. let p = through (clusters_around line.text) (meeting_place line) a e in around-some line.text p.0 a (full (drop p.0 line.text)) u (IsCharBoundary-meeting line p.0 u bound p.1) p.2)

-- ---- words
-- a word before a place starts before it
start-below : (text : List ℕ) (pos n : ℕ) → NoneAtEnd (take pos text) → IsUtf8 text → IsCharBoundary text pos → 0 < pos → word_start text pos n < pos
start-below text pos n full u bound some =
    let front = take pos text in
    let P : ℕ → Type 0 = λ k. k < pos in
    let long : length front ≡ pos = length-take-le pos text bound.0 in
    let places = All-weaker (λ (x : PlacedCluster). x.0 < length front) (λ (x : PlacedCluster). x.0 < pos) (λ x h. omega (arith, long, h)) _ full in
    let xs = stops stop_at.Start Emacs (placed_clusters front) in
    let at : start_before Emacs n (placed_clusters front) < pos = nth-is_or P n (reverse xs) some (All-reverse P xs (All-stops P stop_at.Start Emacs (placed_clusters front) places)) in
    omega (arith, ap (λ o. unwrap_or o pos) (prev_word-some text pos Emacs n some), at)

next_stop-is : (text : List ℕ) (n : ℕ) → IsUtf8 text → IfSome (next_stop stop_at.AfterEnd Emacs n text) (IsCharBoundary text)
next_stop-is text n u = from (nth n (stops stop_at.AfterEnd Emacs (placed_clusters text))) refl
  where
    from : (o : Option ℕ) → nth n (stops stop_at.AfterEnd Emacs (placed_clusters text)) ≡ o → IfSome (option_or o (Some (length text))) (IsCharBoundary text)
    from None e = IsCharBoundary-end text
    from (Some stop) e = IsCharBoundary-stop text stop_at.AfterEnd Emacs n stop u (sym e)

-- a word ends at a boundary of what follows the place
ends_past : (text : List ℕ) (pos n : ℕ) → (k : ℕ) × (word_end text pos n ≡ pos + k) × (IsUtf8 (drop pos text) → IsCharBoundary (drop pos text) k)
ends_past text pos n = from (pos == length text) (next_stop stop_at.AfterEnd Emacs n (drop pos text)) (next_stop-is (drop pos text) n)
  where
    from : (b : Bool) (o : Option ℕ) → (IsUtf8 (drop pos text) → IfSome o (IsCharBoundary (drop pos text)))
        → (k : ℕ) × (unwrap_or (cond b None (option_map (λ stop. pos + stop) o)) pos ≡ pos + k) × (IsUtf8 (drop pos text) → IsCharBoundary (drop pos text) k)
    from false (Some stop) h = (stop, refl, h)
    from true o h = (0, omega arith, λ u. IsCharBoundary-start (drop pos text) u)
    from false None h = (0, omega arith, λ u. IsCharBoundary-start (drop pos text) u)

IsCharBoundary-word_end : (text : List ℕ) (pos n : ℕ) → IsUtf8 text → IsCharBoundary text pos → IsCharBoundary text (word_end text pos n)
IsCharBoundary-word_end text pos n u bound =
    let (k, is, at) = ends_past text pos n in subst (IsCharBoundary text) (sym is) (IsCharBoundary-from_rest text pos k bound.0 (at (IsUtf8-drop text pos u bound)))

-- from a place to the end of its word is text, and so is the word ahead
IsUtf8-to_word_end : (text : List ℕ) (pos n : ℕ) → IsUtf8 text → IsCharBoundary text pos → IsUtf8 (slice_range text pos (word_end text pos n))
IsUtf8-to_word_end text pos n u bound =
    let (k, is, at) = ends_past text pos n in
    let v = IsUtf8-drop text pos u bound in
    let long : k ≡ word_end text pos n - pos = omega (arith, is) in subst (λ m. IsUtf8 (take m (drop pos text))) long (IsUtf8-take (drop pos text) k v (at v))

pub IsUtf8-word_ahead : (line : Line) → IsUtf8 line.text → IsCharBoundary line.text line.cursor → IfSome (word_ahead line) (λ word. IsUtf8 (text_in line word))
IsUtf8-word_ahead line u at = from (first_member (placed_clusters rest)) (IsCharBoundary-member rest)
  where
    rest : List ℕ
    rest = drop line.cursor line.text

    from : (o : Option ℕ) → ((place : ℕ) → IsUtf8 rest → Some place ≡ o → IsCharBoundary rest place)
        → IfSome (option_map (λ start. between start (word_end line.text start 1)) (option_map (λ i. line.cursor + i) o)) (λ word. IsUtf8 (text_in line word))
    from None h = tt
    from (Some i) h = IsUtf8-to_word_end line.text (line.cursor + i) 1 u (IsCharBoundary-from_rest line.text line.cursor i at.0 (h i (IsUtf8-drop line.text line.cursor u at) refl))

-- two words: the second is not empty, and where the first is, its text is taken out at the cursor
Settles-swap : (line : Line) (first second : Range ℕ) → first.start ≤ first.end → first.end ≤ second.start → second.start < second.end → second.end ≤ length line.text
    → Settles line (answering true (swap_plan line first second))
Settles-swap line first second order apart wide within = grind (arith, apart, length-between, empty-deleted, empty-inserted)

apart : (first second : Range ℕ) → are_two first second ≡ true → (first.start ≡ second.start → ⊥) × (first.end ≤ second.start)
apart first second h = grind (arith, nat_tests)

pub Settles-transpose_words : (line : Line) (n : ℕ) → ((text : List ℕ) → IsUtf8 text → NoneAtEnd text) → IsUtf8 line.text → IsCharBoundary line.text line.cursor → Settles line (transpose_words_plan line n)
Settles-transpose_words line n full u bound =
    cond_both (are_two (first_word line n) (second_word line n)) _ _ (Settles line)
    (λ e. let two = apart (first_word line n) (second_word line n) e in
    Settles-swap line (first_word line n) (second_word line n) (omega (arith, (ends_past line.text (first_word line n).start 1).1)) two.1 (wide (second_word line n).end refl two.0) stop.0)
    (λ e. record { quiet = tt; ends = λ some. absurd (some refl) })
  where
    at : ℕ
    at = word_end line.text line.cursor n

    stop : IsCharBoundary line.text at
    stop = IsCharBoundary-word_end line.text line.cursor n u bound

    wide : (end : ℕ) → at ≡ end → ((first_word line n).start ≡ (second_word line n).start → ⊥) → (second_word line n).start < (second_word line n).end
    wide zero is differ =
        let none : word_start line.text at 1 ≡ 0 = ap (λ k. word_start line.text k 1) is in
        absurd (differ (ap (λ k. word_start line.text k n) none ∙ sym none))
    wide (suc k) is differ = start-below line.text at 1 (full (take at line.text) (IsUtf8-take line.text at u stop)) u stop (omega (arith, is))
