-- The record that the code's list of entries stands for, and what an event, an undo and a redo make of it.
use Rattle.rl_record.proofs.Common.{Ahead, All, All-drop, All-map, All-take, Back, Bool, BothMatched, Change, Entry, Freshness, GoesOver, IsCharBoundary, IsMatched, IsOfKind, IsSome, Line, List, Option, Reaches, Record, Some, StandsStill, Way, [], ap, append_assoc, arith, arrived, change_count, common_steps, count_over, cut_at, cut_to, drop, drop-map, drop_at, entries_to_undo, entry_of, entry_to_undo, false, freshness_at, get_or, greatest_back_over, has_change, inverse, kept_of, last_of, length, length-append, length-map, line_ahead, line_back, line_over, map, min, moved, redo_of, refl, reverse, steps_back, steps_over, subst, sym, take, take-map, take_at, take_rest, texts_back, texts_over, unit_of, ℕ, ◌++◌, ◌+◌, ◌-◌, ◌<◌, ◌^◌, ◌∙◌, ◌∷◌, ◌≡◌, ◌≤◌}
use Rattle.rl_line.proofs.Changes.BackLemmas.{line_ahead-append, line_ahead-back, line_ahead-marks, line_back-append, line_back-marks, marks-ahead, marks-back}
use Rattle.rl_line.proofs.Changes.ChangeLemmas.{ahead-inverse}
use Rattle.rl_line.proofs.Changes.GoingLemmas.{steps_ahead-back}
use Rattle.rl_line.proofs.Changes.InverseLemmas.{IsSome-through}
use Rattle.rl_line.proofs.Changes.RoomLemmas.{texts_ahead-back}
use Rattle.rl_line.specs.Change.{longest_over}
use Rattle.rl_record.proofs.Records.MatchLemmas.{Redoes-of, redo-front}
use Rattle.rl_record.proofs.Records.PointLemmas.{count-append, count-within}
use Rattle.rl_record.proofs.Records.UnitLemmas.{kept-last}
use Rattle.rl_line.specs.declared.change.Change.TheVariants as made

-- each entry is of its kind
pub of_kind : (x : Change) → IsOfKind (entry_of x)
of_kind made.Begin = tt
of_kind made.End = tt
of_kind (made.Insert cursors i s) = refl
of_kind (made.Delete cursors i gathered) = refl
of_kind (made.Replace cursors i texts) = tt

pub kinds-are : (n : ℕ) (xs : List Change) (fresh : Freshness) (saved : Option ℕ) (r : Record) → cut_at n (map entry_of xs) fresh saved ≡ r → All IsOfKind r.recorded × All IsOfKind r.pending
kinds-are n xs fresh saved r v =
    let all = All-map IsOfKind entry_of xs (λ k d lt. of_kind (get_or xs k d)) in
    subst (λ (s : Record). All IsOfKind s.recorded × All IsOfKind s.pending) v (All-take IsOfKind n (map entry_of xs) all, All-drop IsOfKind n (map entry_of xs) all)

-- the parts of the code's list
pub recorded-part : (n : ℕ) (xs ys : List Change) → ys ≡ xs → map entry_of (take n ys) ≡ take n (map entry_of xs)
recorded-part n xs ys e = ap (λ zs. map entry_of (take n zs)) e ∙ sym (take-map entry_of n xs)

pub pending-part : (n : ℕ) (xs ys : List Change) → ys ≡ xs → map entry_of (take (length ys - n) (drop n ys)) ≡ drop n (map entry_of xs)
pending-part n xs ys e = ap (map entry_of) (take_rest ys n) ∙ ap (λ zs. map entry_of (drop n zs)) e ∙ sym (drop-map entry_of n xs)

-- the last units of a list of the code, and the first one
pub last-part : (n len first : ℕ) (xs : List Change) → len ≡ length (last_of n (map entry_of xs)) → first ≡ length xs - len
    → (len ≤ length xs) × (map entry_of (drop first xs) ≡ last_of n (map entry_of xs))
last-part n len first xs e f =
    let es = map entry_of xs in
    let sum = ap length (kept-last n es) in
    let few : len ≤ length xs = omega (arith, e, sum, length-append (kept_of n es) (last_of n es), length-map xs entry_of) in
    let long : length (kept_of n es) ≡ first = omega (arith, e, f, sum, length-append (kept_of n es) (last_of n es), length-map xs entry_of) in
    (few, sym (drop-map entry_of first xs) ∙ ap (drop first) (sym (kept-last n es)) ∙ drop_at (kept_of n es) (last_of n es) first long)

pub next-part : (len : ℕ) (xs : List Change) → IsMatched (map entry_of xs) → len ≡ length (redo_of (map entry_of xs)) → (len ≤ length xs) × (map entry_of (take len xs) ≡ redo_of (map entry_of xs))
next-part len xs m e =
    let es = map entry_of xs in
    let list = (Redoes-of es m).list_is in
    let few : len ≤ length xs = omega (arith, e, ap length list, length-append (redo_of es) (drop (length (redo_of es)) es), length-map xs entry_of) in
    (few, sym (take-map entry_of len xs) ∙ ap (take len) (sym list) ∙ take_at (redo_of es) (drop (length (redo_of es)) es) len (sym e))

-- ---- undo and redo: the list stays, and is cut at another place
front-of : (n : ℕ) (xs ys : List Entry) (saved : Option ℕ) → n ≡ length xs → cut_to n (xs ++ ys) saved ≡ arrived xs ys saved
front-of n xs ys saved e =
    ap (λ es. record { recorded = es; pending = drop n (xs ++ ys); fresh = freshness_at (change_count es) saved; saved = saved }) (take_at xs ys n (sym e))
    ∙ ap (λ es. record { recorded = xs; pending = es; fresh = freshness_at (change_count xs) saved; saved = saved }) (drop_at xs ys n (sym e))

pub moved-cut : (way : Way) (n count : ℕ) (r : Record) → BothMatched r → count ≡ length (unit_of way n r)
    → cut_to (count_over way (length r.recorded) count) (r.recorded ++ r.pending) r.saved ≡ moved way n r
moved-cut Back n count r m e =
    let kept = kept_of n r.recorded in
    let unit = last_of n r.recorded in
    let whole : r.recorded ++ r.pending ≡ kept ++ (unit ++ r.pending) = ap (λ l. l ++ r.pending) (sym (kept-last n r.recorded)) ∙ append_assoc kept unit r.pending in
    ap (λ l. cut_to (length r.recorded - count) l r.saved) whole
    ∙ front-of (length r.recorded - count) kept (unit ++ r.pending) r.saved (omega (arith, e, ap length (kept-last n r.recorded), length-append kept unit))
moved-cut Ahead n count r m e =
    let unit = redo_of r.pending in
    let left = drop (length unit) r.pending in
    let whole : r.recorded ++ r.pending ≡ (r.recorded ++ unit) ++ left =
    ap (λ l. r.recorded ++ l) (sym (Redoes-of r.pending m.pending).list_is) ∙ sym (append_assoc r.recorded unit left) in
    ap (λ l. cut_to (length r.recorded + count) l r.saved) whole ∙ front-of (length r.recorded + count) (r.recorded ++ unit) left r.saved (omega (arith, e, length-append r.recorded unit))

-- the same of the code's numbers
pub moved-at : (way : Way) (n len count recorded : ℕ) (was r now : Record) → was ≡ r → BothMatched was → len ≡ length was.recorded → count ≡ length (unit_of way n r) → recorded ≡ count_over way len count
    → now ≡ cut_to recorded (was.recorded ++ was.pending) was.saved → now ≡ moved way n r
moved-at way n len count recorded was r now v m l e f is = grind (arith, moved-cut)

pub unit-within : (way : Way) (n count : ℕ) (r : Record) → BothMatched r → count ≡ length (unit_of way n r) → count_over way (length r.recorded) count ≤ length r.recorded + length r.pending
unit-within Back n count r m e = omega arith
unit-within Ahead n count r m e =
    omega (arith, e, ap length (Redoes-of r.pending m.pending).list_is, length-append (redo_of r.pending) (drop (length (redo_of r.pending)) r.pending))

pub unit-reaches : (way : Way) (n count : ℕ) (r : Record) → BothMatched r → length r.recorded + length r.pending < 2 ^ 63 → count ≡ length (unit_of way n r)
    → Reaches way (length r.recorded) count
unit-reaches Back n count r m small e = omega (arith, e, ap length (kept-last n r.recorded), length-append (kept_of n r.recorded) (last_of n r.recorded))
unit-reaches Ahead n count r m small e = omega (arith, unit-within Ahead n count r m e)

-- the same of how many of them are changes
counted-over : (way : Way) (n changes : ℕ) (r : Record) → changes ≡ change_count (unit_of way n r) → count_over way (change_count r.recorded) changes ≡ change_count (moved way n r).recorded
counted-over Back n changes r e = omega (arith, e, ap change_count (kept-last n r.recorded), count-append (kept_of n r.recorded) (last_of n r.recorded))
counted-over Ahead n changes r e = omega (arith, e, count-append r.recorded (redo_of r.pending))

pub changes-over : (way : Way) (n len count recorded total changes sum : ℕ) (was r : Record) → was ≡ r → BothMatched was → len ≡ length was.recorded → count ≡ length (unit_of way n r)
    → recorded ≡ count_over way len count → total ≡ change_count was.recorded → changes ≡ change_count (unit_of way n r) → sum ≡ count_over way total changes
    → sum ≡ change_count (take recorded (was.recorded ++ was.pending))
changes-over way n len count recorded total changes sum was r v m l e f t c s =
    s ∙ ap (λ k. count_over way k changes) (t ∙ ap (λ (q : Record). change_count q.recorded) v) ∙ counted-over way n changes r c
    ∙ ap (λ (q : Record). change_count q.recorded) (sym (moved-at way n len count recorded was r (cut_to recorded (was.recorded ++ was.pending) was.saved) v m l e f refl))

pub changes-reach : (way : Way) (n total changes : ℕ) (was r : Record) → was ≡ r → BothMatched was → length was.recorded + length was.pending < 2 ^ 63 → total ≡ change_count was.recorded
    → changes ≡ change_count (unit_of way n r) → Reaches way total changes
changes-reach way n total changes was r v =
    subst (λ (q : Record). BothMatched q → length q.recorded + length q.pending < 2 ^ 63 → total ≡ change_count q.recorded → changes ≡ change_count (unit_of way n r) → Reaches way total changes) (sym v)
    (λ m small t c. reach way m small t c)
  where
    reach : (way : Way) → BothMatched r → length r.recorded + length r.pending < 2 ^ 63 → total ≡ change_count r.recorded → changes ≡ change_count (unit_of way n r) → Reaches way total changes
    reach Back m small t c = omega (arith, t, c, ap change_count (kept-last n r.recorded), count-append (kept_of n r.recorded) (last_of n r.recorded))
    reach Ahead m small t c =
        omega (arith, t, c, small, count-within r.recorded, count-within (redo_of r.pending), unit-within Ahead n (length (redo_of r.pending)) r m refl)

pub GoesOver-of : (way : Way) (n : ℕ) (old new : Record) (line line' : Line) (answer : Bool) → line_over way (unit_of way n old) line ≡ Some line' → new ≡ moved way n old
    → answer ≡ has_change (unit_of way n old) → GoesOver way n old new line line' answer
GoesOver-of Back n old new line line' answer l r a = record { line_is = l; record_is = r; answer_is = a }
GoesOver-of Ahead n old new line line' answer l r a = record { line_is = l; record_is = r; answer_is = a }

pub undo-fits : (n : ℕ) (es : List Entry) (line : Line) → IsSome (line_back es line) → IsSome (line_back (last_of n es) line)
undo-fits n es line h =
    let all : line_back es line ≡ _ = ap (λ l. line_back l line) (sym (kept-last n es)) ∙ line_back-append (kept_of n es) (last_of n es) line in
    IsSome-through (line_back (kept_of n es)) (line_back (last_of n es) line) (subst IsSome all h)

-- what a line that goes back over some entries does, where they are those of a way over others
pub record GoesAs (way : Way) (back es : List Entry) : Type 0 where
  pub line : (line : Line) → line_back back line ≡ line_over way es line
  pub steps : (cursor : ℕ) → steps_back cursor back ≡ steps_over way cursor es
  pub texts : (text : List ℕ) → texts_back back text ≡ texts_over way es text
  pub longest : (n : ℕ) → greatest_back_over back n ≡ longest_over way es n

-- the entries as a line goes back over them
abbrev turned : Way → List Entry → List Entry
turned Back es = es
turned Ahead es = map inverse (reverse es)

goes-as : (way : Way) (es : List Entry) → GoesAs way (turned way es) es
goes-as Back es = record { line = λ line. refl; steps = λ cursor. refl; texts = λ text. refl; longest = λ n. refl }
goes-as Ahead es = record { line = line_ahead-back es; steps = λ cursor. steps_ahead-back cursor es; texts = texts_ahead-back es; longest = λ n. refl }

pub GoesAs-all : (way : Way) (xs : List Change) (es : List Entry) → map entry_of xs ≡ es → GoesAs way (entries_to_undo way xs) es
GoesAs-all Back xs es e = subst (λ l. GoesAs Back l es) (sym e) (goes-as Back es)
GoesAs-all Ahead xs es e = subst (λ l. GoesAs Ahead l es) (sym (ahead-inverse xs ∙ ap (λ l. map inverse (reverse l)) e)) (goes-as Ahead es)

pub GoesAs-one : (way : Way) (x : Change) (es : List Entry) → es ≡ entry_of x ∷ [] → GoesAs way (entry_to_undo way x ∷ []) es
GoesAs-one Back x es e = GoesAs-all Back (x ∷ []) es (sym e)
GoesAs-one Ahead x es e = GoesAs-all Ahead (x ∷ []) es (sym e)

-- where a line stays: it went over marks alone
pub marks-over : (way : Way) (es : List Entry) (line line' : Line) → has_change es ≡ false → line_over way es line ≡ Some line' → StandsStill line line'
marks-over Back es line line' none e = line_back-marks es line line' none e
marks-over Ahead es line line' none e = line_ahead-marks es line line' none e

pub redo-fits : (es : List Entry) (line : Line) → IsSome (line_ahead es line) → IsSome (line_ahead (redo_of es) line)
redo-fits es line h =
    let unit = redo_of es in
    let all : line_ahead es line ≡ _ = ap (λ l. line_ahead l line) (sym (redo-front es)) ∙ line_ahead-append unit (drop (length unit) es) line in
    IsSome-through (line_ahead (drop (length unit) es)) (line_ahead unit line) (subst IsSome all h)

-- ---- questions
-- without a change there is always a way over the changes
pub marks-lead : (way : Way) (es : List Entry) (line : Line) → has_change es ≡ false → IsCharBoundary line.text line.cursor → IsSome (line_over way es line)
marks-lead Back es line none at = marks-back es line none at
marks-lead Ahead es line none at = marks-ahead es line none at

-- the first entries of a list, where there are so many
pub first-view : (len n : ℕ) (xs : List Change) → n ≡ min len (length xs) → map entry_of (take n xs) ≡ take len (map entry_of xs)
first-view len n xs e = grind (arith, common_steps, take-map)

pub ruleset parts_of_lists = (first-view, pending-part, recorded-part)
