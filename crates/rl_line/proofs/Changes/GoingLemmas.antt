-- A line that goes over one change: the range that gives way, the text that is made, the cursor in it, and what a listener hears.
use Rattle.rl_line.proofs.Common.{Changed, Entry, Event, IsCharBoundary, IsSome, Line, List, None, Option, Some, Step, [], after, ap, apply, arith, common_steps, cursor_after, cursor_told, event_of, inverse, length, line_after, line_ahead, line_back, listener_after, listener_after_step, map, new_text, old_text, option_and_then, place, refl, replace_range, reverse, slice_range, stepped, steps_ahead, steps_back, subst, sym, unwrap_or, ℕ, ◌++◌, ◌+◌, ◌∙◌, ◌∷◌, ◌≡◌, ◌≤◌}
use Rattle.rl_base.specs.Event.{apply}
use Rattle.rl_line.proofs.Changes.BackLemmas.{line_ahead-back, one-back, one-fits, one-stands}
use Rattle.rl_line.proofs.Changes.ChangeLemmas.{StandsNew-from_IsSome, mark-leaves, place_after-is}
use Rattle.rl_line.proofs.Changes.InverseLemmas.{through, turned-turned}
use Rattle.rl_line.proofs.Plans.PlanLemmas.{Fits-from, standing-is}
use Rattle.rl_line.specs.LineRanges.{IsRange}

-- going back is going ahead over the inverses, the last first
pub line_back-ahead : (es : List Entry) (line : Line) → line_ahead (map inverse (reverse es)) line ≡ line_back es line
line_back-ahead es line = sym (line_ahead-back (map inverse (reverse es)) line) ∙ ap (λ l. line_back l line) (turned-turned es)

pub steps_ahead-back : (cursor : ℕ) (es : List Entry) → steps_back cursor (map inverse (reverse es)) ≡ steps_ahead cursor es
steps_ahead-back cursor es = ap (steps_ahead cursor) (turned-turned es)

-- where a line goes over an entry, its cursor goes where the entry says
pub cursor-gone : (e : Entry) (line next : Line) → line_after e line ≡ Some next → next.cursor ≡ cursor_after line.cursor e
cursor-gone e line next h = ap (λ (l : Line). l.cursor) (Fits-from (event_of e) (cursor_after line.cursor e) line next h).is

-- ---- the steps lead the line where the entries do
-- a mark leaves a line whose text keeps to its limit
by_a_mark : (line next : Line) → length line.text ≤ line.limit → stepped line line.text line.cursor ≡ next → next ≡ line
by_a_mark line next within is = grind arith

pub after-steps_ahead : (es : List Entry) (line now : Line) → IsCharBoundary line.text line.cursor → length line.text ≤ line.limit → line_ahead es line ≡ Some now
    → after (steps_ahead line.cursor es) line ≡ Some now
unfolding apply
after-steps_ahead [] line now at within h = h
after-steps_ahead (Changed k c ∷ es) line now at within h =
    let e = Changed k c in
    let place = cursor_after line.cursor e in
    let p = through (line_ahead es) (line_after e line) now h in
    let f = Fits-from (event_of e) place line p.0 p.1 in
    let stands : IsCharBoundary p.0.text p.0.cursor = subst (λ (l : Line). IsCharBoundary l.text l.cursor) (sym f.is) f.stands in
    let keeps : length p.0.text ≤ p.0.limit = subst (λ (l : Line). length l.text ≤ l.limit) (sym f.is) (omega arith) in
    ap (option_and_then (after (steps_ahead place es))) p.1 ∙ ap (λ k. after (steps_ahead k es) p.0) (sym (cursor-gone e line p.0 p.1))
    ∙ after-steps_ahead es p.0 now stands keeps p.2
after-steps_ahead (mark ∷ es) line now at within h =
    let p = through (line_ahead es) (line_after mark line) now h in
    let same = by_a_mark line p.0 within (standing-is (stepped line line.text line.cursor) p.0 p.1) in
    after-steps_ahead es line now at within (ap (line_ahead es) (sym same) ∙ p.2)

pub after-steps_back : (es : List Entry) (line now : Line) → IsCharBoundary line.text line.cursor → length line.text ≤ line.limit → line_back es line ≡ Some now
    → after (steps_back line.cursor es) line ≡ Some now
after-steps_back es line now at within h = after-steps_ahead (map inverse (reverse es)) line now at within (line_back-ahead es line ∙ h)

-- where the cursor is after entries were made, from where it stood before them
abbrev cursor_past : ℕ → List Entry → ℕ
cursor_past cursor [] = cursor
cursor_past cursor (e ∷ es) = cursor_past (cursor_after cursor e) es

-- that of a line that goes ahead over them
cursor_past-ahead : (es : List Entry) (line now : Line) → line_ahead es line ≡ Some now → cursor_past line.cursor es ≡ now.cursor
cursor_past-ahead [] line now h = let same : line ≡ now = cc in ap (λ (l : Line). l.cursor) same
cursor_past-ahead (e ∷ es) line now h =
    let p = through (line_ahead es) (line_after e line) now h in ap (λ k. cursor_past k es) (sym (cursor-gone e line p.0 p.1)) ∙ cursor_past-ahead es p.0 now p.2

steps_ahead-append : (es ds : List Entry) (cursor : ℕ) → steps_ahead cursor (es ++ ds) ≡ steps_ahead cursor es ++ steps_ahead (cursor_past cursor es) ds
steps_ahead-append [] ds cursor = refl
steps_ahead-append (Changed kind swap ∷ es) ds cursor =
    let d = Changed kind swap in
    ap (λ ss. (event_of d, cursor_after cursor d) ∷ ss) (steps_ahead-append es ds (cursor_after cursor d))
steps_ahead-append (mark ∷ es) ds cursor = steps_ahead-append es ds cursor

-- ---- what a listener became
module _ {L : Type 0} (step : L → Event → L) where
  -- over entries, and then other steps
  heard-past : (es : List Entry) (cursor : ℕ) (ss : List Step) (l : L)
      → listener_after step cursor (steps_ahead cursor es ++ ss) l ≡ listener_after step (cursor_past cursor es) ss (listener_after step cursor (steps_ahead cursor es) l)
  heard-past [] cursor ss l = refl
  heard-past (Changed kind swap ∷ es) cursor ss l =
      let d = Changed kind swap in
      heard-past es (cursor_after cursor d) ss (listener_after_step step cursor (event_of d, cursor_after cursor d) l)
  heard-past (mark ∷ es) cursor ss l = heard-past es cursor ss l

  -- over entries and one more
  ahead-one_more : (es : List Entry) (e : Entry) (line now : Line) (l : L) → line_ahead es line ≡ Some now
      → listener_after step line.cursor (steps_ahead line.cursor (es ++ e ∷ [])) l
      ≡ listener_after step now.cursor (steps_ahead now.cursor (e ∷ [])) (listener_after step line.cursor (steps_ahead line.cursor es) l)
  ahead-one_more es e line now l h = grind (arith, steps_ahead-append, heard-past, cursor_past-ahead)

  -- a line went back over entries, and now over one before them
  pub back-one_more : (e : Entry) (es : List Entry) (line now : Line) (l : L) → line_back es line ≡ Some now
      → listener_after step line.cursor (steps_back line.cursor (e ∷ es)) l
      ≡ listener_after step now.cursor (steps_ahead now.cursor (inverse e ∷ [])) (listener_after step line.cursor (steps_back line.cursor es) l)
  back-one_more e es line now l h = grind (arith, common_steps, ahead-one_more, line_back-ahead)

-- the text once what was put in gave way to what was taken out
abbrev pub text_over : Entry → List ℕ → ℕ → List ℕ
text_over e text at = replace_range text at (at + length (new_text e)) (old_text e)

pub record GoesOver (e : Entry) (line : Line) (at : ℕ) : Type 0 where
  pub range : IsRange line.text at (at + length (new_text e))
  pub bytes : slice_range line.text at (at + length (new_text e)) ≡ new_text e
  pub makes : apply (event_of (inverse e)) line.text ≡ Some (text_over e line.text at)
  pub cursor : (o : Option ℕ) → o ≡ cursor_told (inverse e) → unwrap_or o (at + length (old_text e)) ≡ cursor_after line.cursor (inverse e)
  pub stands : IsCharBoundary (text_over e line.text at) (cursor_after line.cursor (inverse e))
  pub back : (next : Line) → next ≡ stepped line (text_over e line.text at) (cursor_after line.cursor (inverse e)) → line_back (e ∷ []) line ≡ Some next

pub goes_over : (e : Entry) (line : Line) (at : ℕ) → place e ≡ Some at → IsSome (line_back (e ∷ []) line) → GoesOver e line at
goes_over e line at here follows =
    let d = StandsNew-from_IsSome e line.text at here (one-fits e line follows) in
    let there = one-stands e line follows (text_over e line.text at) d.makes in
    record {
      range = (omega arith, d.start, d.end);
      bytes = d.bytes;
      makes = d.makes;
      cursor = λ o told. ap (λ (p : Option ℕ). unwrap_or p (at + length (old_text e))) told ∙ ap (unwrap_or (cursor_told (inverse e))) (sym (place_after-is e at line.cursor here));
      stands = there;
      back = λ next is. one-back e line next (text_over e line.text at) d.makes is there;
    }

-- a mark leaves the cursor, and the line
pub over-mark : (e : Entry) (line : Line) → place e ≡ None → length line.text ≤ line.limit → IsSome (line_back (e ∷ []) line) → line_back (e ∷ []) line ≡ Some line
over-mark e line none within follows = grind (arith, mark-leaves)
