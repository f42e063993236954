-- A line that goes back over entries, where they fit its text, and ahead again.
use Rattle.rl_line.proofs.Common.{Change, Changed, Entry, IsCharBoundary, IsCharBoundary-at_seam, IsSome, IsUtf8, Line, List, None, Option, Some, Way, [], ap, append_assoc, arith, common_steps, cursor_after, cursor_stands, cursor_told, drop, entry_to_undo, event_of, false, get_or, greatest_back_over, has_change, if_standing, inverse, is_boundary, is_some, length, length-append, length_back_over, line_after, line_ahead, line_back, map, map-append, option_and_then, option_map_or, place_after, refl, replay_entries, reverse, reverse-append, same_Some, stepped, subst, suc, sym, take, text_after, text_back, true, unwind, unwrap_or, zero, ℕ, ◌++◌, ◌+◌, ◌<◌, ◌∙◌, ◌∷◌, ◌≡◌, ◌≤◌}
use Rattle.rl_base.proofs.Texts.SwapLemmas.{Swaps, Swaps-Replace, apply-IsUtf8}
use Rattle.rl_base.proofs.Texts.TextLemmas.{is_boundary-means}
use Rattle.rl_base.specs.Event.{apply}
use Rattle.rl_line.proofs.Changes.InverseLemmas.{IsSome-through, has_change-turned, inverse-inverse, read-first, then_both, then_some, through, value_of}
use Rattle.rl_line.proofs.Plans.PlanLemmas.{Fits-from, after_step-is, standing}

-- one entry back
abbrev back_one : Entry → Line → Option Line
back_one e line = line_after (inverse e) line

-- an entry that fits the text leaves the cursor between two characters, where it stood so before
Swaps-past : (text after : List ℕ) (i : ℕ) (old new : List ℕ) → Swaps text after i old new → IsCharBoundary after (i + length new)
Swaps-past text after i old new s =
    subst (IsCharBoundary after) (length-append s.front new ∙ ap (λ k. k + length new) s.place)
    (IsCharBoundary-at_seam after (s.front ++ new) s.rest (s.after_is ∙ sym (append_assoc s.front new s.rest)) s.rest_utf8)

place_after-stands : (e : Entry) (text now : List ℕ) (cursor : ℕ) → IsUtf8 text → IsCharBoundary text cursor → apply (event_of e) text ≡ Some now → IsCharBoundary now (place_after cursor e)
unfolding apply
place_after-stands (Changed k c) text now cursor u at h = Swaps-past text now c.place c.old c.new (Swaps-Replace text now c.place c.old c.new u h)
place_after-stands mark text now cursor u at h = let e : text ≡ now = cc in subst (λ t. IsCharBoundary t cursor) e at

-- what a text that goes on with its cursor is
pub text_after-means : (e : Entry) (text now : List ℕ) → text_after true e text ≡ Some now → (apply (event_of e) text ≡ Some now) × (cursor_stands true e now ≡ true)
text_after-means e text now h = grind arith

-- so does one with a cursor that was told, where that stands
cursor_after-stands : (e : Entry) (text now : List ℕ) (cursor : ℕ) → IsUtf8 text → IsCharBoundary text cursor → text_after true e text ≡ Some now
    → IsCharBoundary now (cursor_after cursor e)
cursor_after-stands e text now cursor u at h = let m = text_after-means e text now h in told m.0 (cursor_told e) m.1
  where
    told : apply (event_of e) text ≡ Some now → (o : Option ℕ) → option_map_or (is_boundary now) o true ≡ true → IsCharBoundary now (unwrap_or o (place_after cursor e))
    told makes None b = place_after-stands e text now cursor u at makes
    told makes (Some k) b = is_boundary-means now k b

-- a line that goes back over one entry: the entry fits its text
pub one-fits : (e : Entry) (line : Line) → IsSome (line_back (e ∷ []) line) → IsSome (apply (event_of (inverse e)) line.text)
one-fits e line h = IsSome-through (λ text. if_standing (stepped line text (cursor_after line.cursor (inverse e)))) (apply (event_of (inverse e)) line.text) h

-- its cursor stands in the text that it makes
pub one-stands : (e : Entry) (line : Line) → IsSome (line_back (e ∷ []) line)
    → (text : List ℕ) → apply (event_of (inverse e)) line.text ≡ Some text → IsCharBoundary text (cursor_after line.cursor (inverse e))
one-stands e line h text fits =
    let o = value_of (back_one e line) h in
    let f = Fits-from (event_of (inverse e)) (cursor_after line.cursor (inverse e)) line o.0 o.1 in
    subst (λ t. IsCharBoundary t (cursor_after line.cursor (inverse e))) (same_Some _ _ (sym f.makes ∙ fits)) f.stands

-- and that is the line's then
pub one-back : (e : Entry) (line next : Line) (text : List ℕ) → apply (event_of (inverse e)) line.text ≡ Some text → next ≡ stepped line text (cursor_after line.cursor (inverse e))
    → IsCharBoundary text (cursor_after line.cursor (inverse e)) → line_back (e ∷ []) line ≡ Some next
one-back e line next text makes is at = after_step-is (event_of (inverse e)) (cursor_after line.cursor (inverse e)) line text makes at ∙ ap Some (sym is)

pub line_back-append : (xs ys : List Entry) (line : Line) → line_back (xs ++ ys) line ≡ option_and_then (line_back xs) (line_back ys line)
line_back-append [] ys line = sym (then_some (line_back ys line))
line_back-append (x ∷ xs) ys line =
    ap (option_and_then (back_one x)) (line_back-append xs ys line) ∙ sym (then_both (line_back (x ∷ xs)) (line_back xs) (back_one x) (λ l. refl) (line_back ys line))

pub then-same : {A B : Type 0} (f g : A → Option B) → ((a : A) → f a ≡ g a) → (o : Option A) → option_and_then f o ≡ option_and_then g o
then-same f g same None = refl
then-same f g same (Some a) = same a

pub line_ahead-append : (xs ys : List Entry) (line : Line) → line_ahead (xs ++ ys) line ≡ option_and_then (line_ahead ys) (line_ahead xs line)
line_ahead-append [] ys line = refl
line_ahead-append (x ∷ xs) ys line = then_both (line_ahead (xs ++ ys)) (line_ahead xs) (line_ahead ys) (λ l. line_ahead-append xs ys l) (line_after x line)

-- going ahead takes the inverses back, the first first
pub line_ahead-back : (es : List Entry) (line : Line) → line_back (map inverse (reverse es)) line ≡ line_ahead es line
line_ahead-back [] line = refl
line_ahead-back (e ∷ es) line =
    ap (λ l. line_back (map inverse l) line) (reverse-append (e ∷ []) es) ∙ ap (λ l. line_back l line) (map-append inverse (reverse es) (e ∷ []))
    ∙ line_back-append (map inverse (reverse es)) (inverse e ∷ []) line ∙ ap (λ f. option_and_then (line_back (map inverse (reverse es))) (line_after f line)) (inverse-inverse e)
    ∙ then-same (line_back (map inverse (reverse es))) (line_ahead es) (line_ahead-back es) (line_after e line)

-- the entries from n on were taken back, which led from start to now, and those before can be
pub record IsBack (way : Way) (xs : List Change) (n : ℕ) (start now : Line) : Type 0 where
  pub so_far : line_back (map (entry_to_undo way) (drop n xs)) start ≡ Some now
  pub rest : IsSome (line_back (map (entry_to_undo way) (take n xs)) now)

-- the last of the entries that are left
rest_split : (way : Way) (xs : List Change) (m : ℕ) (x : Change) (now : Line) → m < length xs → x ≡ get_or xs m x
    → line_back (map (entry_to_undo way) (take (m + 1) xs)) now ≡ option_and_then (line_back (map (entry_to_undo way) (take m xs))) (back_one (entry_to_undo way x) now)
rest_split way xs m x now lt e = grind (arith, common_steps, line_back-append)

-- the entries from m on are that at m and those after it
pub entries_from : (way : Way) (xs : List Change) (m : ℕ) (x : Change) → m < length xs → x ≡ get_or xs m x
    → map (entry_to_undo way) (drop m xs) ≡ entry_to_undo way x ∷ map (entry_to_undo way) (drop (m + 1) xs)
entries_from way = read-first (entry_to_undo way)

-- before the first of them
pub IsBack-none : (way : Way) (xs : List Change) (start : Line) → IsSome (line_back (map (entry_to_undo way) xs) start) → IsBack way xs (length xs) start start
IsBack-none way xs start h = grind (arith, common_steps)

pub IsBack-fits : (way : Way) (xs : List Change) (m : ℕ) (x : Change) (start now : Line) → m < length xs → x ≡ get_or xs m x → IsBack way xs (m + 1) start now
    → IsSome (line_back (entry_to_undo way x ∷ []) now)
IsBack-fits way xs m x start now lt e b =
    IsSome-through (line_back (map (entry_to_undo way) (take m xs))) (back_one (entry_to_undo way x) now) (subst IsSome (rest_split way xs m x now lt e) b.rest)

pub IsBack-next : (way : Way) (xs : List Change) (m : ℕ) (x : Change) (start now next : Line) → m < length xs → x ≡ get_or xs m x → IsBack way xs (m + 1) start now
    → line_back (entry_to_undo way x ∷ []) now ≡ Some next → IsBack way xs m start next
IsBack-next way xs m x start now next lt e b one =
    record {
      so_far = ap (λ es. line_back es start) (entries_from way xs m x lt e) ∙ ap (option_and_then (back_one (entry_to_undo way x))) b.so_far ∙ one;
      rest = subst IsSome (rest_split way xs m x now lt e ∙ ap (option_and_then (line_back (map (entry_to_undo way) (take m xs)))) one) b.rest;
    }

-- a line that goes over an entry
pub line_after-is : (e : Entry) (line : Line) (now : List ℕ) → IsUtf8 line.text → IsCharBoundary line.text line.cursor → text_after true e line.text ≡ Some now
    → (line_after e line ≡ Some (stepped line now (cursor_after line.cursor e))) × IsCharBoundary now (cursor_after line.cursor e)
line_after-is e line now u at h =
    let there = cursor_after-stands e line.text now line.cursor u at h in
    (after_step-is (event_of e) (cursor_after line.cursor e) line now (text_after-means e line.text now h).0 there, there)

-- where a text goes back with its cursors, a line whose cursor stands between two of its characters does, and has that text then
record GoesBack (es : List Entry) (line : Line) (text : List ℕ) : Type 0 where
  now : Line
  is : line_back es line ≡ Some now
  text_is : now.text ≡ text
  utf8 : IsUtf8 text
  stands : IsCharBoundary text now.cursor

goes_back : (es : List Entry) (line : Line) (text : List ℕ) → IsUtf8 line.text → IsCharBoundary line.text line.cursor → text_back true es line.text ≡ Some text → GoesBack es line text
goes_back [] line text u at h =
    let e : line.text ≡ text = cc in record { now = line; is = refl; text_is = e; utf8 = subst IsUtf8 e u; stands = subst (λ t. IsCharBoundary t line.cursor) e at }
goes_back (e ∷ es) line text u at h =
    let p = through (text_after true (inverse e)) (text_back true es line.text) text h in
    let l = goes_back es line p.0 u at p.1 in
    let place = cursor_after l.now.cursor (inverse e) in
    let there = cursor_after-stands (inverse e) p.0 text l.now.cursor l.utf8 l.stands p.2 in
    let makes = (text_after-means (inverse e) p.0 text p.2).0 in
    record {
      now = stepped l.now text place;
      is = ap (option_and_then (back_one e)) l.is ∙ ap (option_and_then (λ t. if_standing (stepped l.now t place))) (ap (apply (event_of (inverse e))) l.text_is ∙ makes)
          ∙ standing (stepped l.now text place) there;
      text_is = refl;
      utf8 = apply-IsUtf8 (event_of (inverse e)) p.0 text l.utf8 makes;
      stands = there;
    }

pub line_back-IsSome : (es : List Entry) (line : Line) → IsUtf8 line.text → IsCharBoundary line.text line.cursor → IsSome (text_back true es line.text) → IsSome (line_back es line)
line_back-IsSome es line u at h =
    let t = value_of (text_back true es line.text) h in
    let l = goes_back es line t.0 u at t.1 in
    subst IsSome (sym l.is) refl

-- and a line that goes back has a text that does
line_after-text_after : (e : Entry) (line next : Line) → line_after e line ≡ Some next → text_after true e line.text ≡ Some next.text
line_after-text_after e line next h = grind arith

pub line_back-text_back : (es : List Entry) (line now : Line) → line_back es line ≡ Some now → text_back true es line.text ≡ Some now.text
line_back-text_back [] line now h = let e : line ≡ now = cc in ap (λ (l : Line). Some l.text) e
line_back-text_back (e ∷ es) line now h =
    let p = through (line_after (inverse e)) (line_back es line) now h in
    ap (option_and_then (text_after true (inverse e))) (line_back-text_back es line p.0 p.1) ∙ line_after-text_after (inverse e) p.0 now p.2

-- and a line that goes back has the text that is unwound
line_after-text : (e : Entry) (line next : Line) → line_after e line ≡ Some next → apply (event_of e) line.text ≡ Some next.text
line_after-text e line next h = grind arith

pub line_back-unwind : (es : List Entry) (line now : Line) → line_back es line ≡ Some now → unwind es line.text ≡ Some now.text
line_back-unwind [] line now h = let e : line ≡ now = cc in ap (λ (l : Line). Some l.text) e
line_back-unwind (e ∷ es) line now h =
    let p = through (line_after (inverse e)) (line_back es line) now h in
    ap (option_and_then (apply (event_of (inverse e)))) (line_back-unwind es line p.0 p.1) ∙ line_after-text (inverse e) p.0 now p.2

-- and one that goes ahead, that of the replay
pub line_ahead-replay : (es : List Entry) (line now : Line) → line_ahead es line ≡ Some now → replay_entries es line.text ≡ Some now.text
line_ahead-replay [] line now h = let e : line ≡ now = cc in ap (λ (l : Line). Some l.text) e
line_ahead-replay (e ∷ es) line now h =
    let p = through (line_ahead es) (line_after e line) now h in
    ap (option_and_then (replay_entries es)) (line_after-text e line p.0 p.1) ∙ line_ahead-replay es p.0 now p.2

-- so the two ask the same
pub line_back-is_some : (es : List Entry) (line : Line) → IsUtf8 line.text → IsCharBoundary line.text line.cursor → is_some (text_back true es line.text) ≡ is_some (line_back es line)
line_back-is_some es line u at = grind (arith, line_back-IsSome, line_back-text_back)

-- where the entries before a mark leave text and cursor, the mark does too
left_by_a_mark : (line mid now : Line) → (mid.text ≡ line.text) × (mid.cursor ≡ line.cursor) → if_standing (stepped mid mid.text mid.cursor) ≡ Some now
    → (now.text ≡ line.text) × (now.cursor ≡ line.cursor)
left_by_a_mark line mid now after is = grind arith

pub line_back-marks : (es : List Entry) (line now : Line) → has_change es ≡ false → line_back es line ≡ Some now → (now.text ≡ line.text) × (now.cursor ≡ line.cursor)
unfolding apply
line_back-marks [] line now none is =
    let same : line ≡ now = cc in
    (ap (λ (l : Line). l.text) (sym same), ap (λ (l : Line). l.cursor) (sym same))
line_back-marks (Changed k c ∷ es) line now none is = cc
line_back-marks (mark ∷ es) line now none is =
    let p = through (line_after mark) (line_back es line) now is in left_by_a_mark line p.0 now (line_back-marks es line p.0 none p.1) p.2

pub line_ahead-marks : (es : List Entry) (line now : Line) → has_change es ≡ false → line_ahead es line ≡ Some now → (now.text ≡ line.text) × (now.cursor ≡ line.cursor)
line_ahead-marks es line now none is = line_back-marks (map inverse (reverse es)) line now (has_change-turned es ∙ none) (line_ahead-back es line ∙ is)

past_a_mark : (es : List Entry) (line : Line) → has_change es ≡ false → IsCharBoundary line.text line.cursor → IsSome (line_back es line)
    → IsSome (option_and_then (λ (mid : Line). if_standing (stepped mid mid.text mid.cursor)) (line_back es line))
past_a_mark es line none at h =
    let p = value_of (line_back es line) h in
    let same = line_back-marks es line p.0 none p.1 in
    let there : IsCharBoundary p.0.text p.0.cursor = rw (same.0, same.1) at in
    subst (λ o. IsSome (option_and_then (λ (mid : Line). if_standing (stepped mid mid.text mid.cursor)) o)) (sym p.1)
    (subst IsSome (sym (standing (stepped p.0 p.0.text p.0.cursor) there)) refl)

-- without a change there is always a way
pub marks-back : (es : List Entry) (line : Line) → has_change es ≡ false → IsCharBoundary line.text line.cursor → IsSome (line_back es line)
unfolding apply
marks-back [] line none at = refl
marks-back (Changed k c ∷ es) line none at = cc
marks-back (mark ∷ es) line none at = past_a_mark es line none at (marks-back es line none at)

pub marks-ahead : (es : List Entry) (line : Line) → has_change es ≡ false → IsCharBoundary line.text line.cursor → IsSome (line_ahead es line)
marks-ahead es line none at = subst IsSome (line_ahead-back es line) (marks-back (map inverse (reverse es)) line (has_change-turned es ∙ none) at)

pub marks-unwind : (es : List Entry) (text : List ℕ) → has_change es ≡ false → unwind es text ≡ Some text
unfolding apply
marks-unwind [] text none = refl
marks-unwind (Changed k c ∷ es) text none = cc
marks-unwind (mark ∷ es) text none = ap (option_and_then (λ t. Some t)) (marks-unwind es text none)

pub marks-take : (len : ℕ) (es : List Entry) → has_change es ≡ false → has_change (take len es) ≡ false
marks-take zero es none = refl
marks-take (suc len) [] none = refl
marks-take (suc len) (Changed k c ∷ es) none = cc
marks-take (suc len) (mark ∷ es) none = marks-take len es none

-- no length on the way is past the greatest
pub length_back_over-within : (m : ℕ) (es : List Entry) (n : ℕ) → length_back_over (drop m es) n ≤ greatest_back_over es n
length_back_over-within zero [] n = omega arith
length_back_over-within (suc m) [] n = omega arith
length_back_over-within zero (e ∷ es) n = omega arith
length_back_over-within (suc m) (e ∷ es) n = omega (arith, length_back_over-within m es n)
