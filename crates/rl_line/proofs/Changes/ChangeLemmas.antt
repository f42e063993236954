-- What stands in a text where it can go over an entry.
use Rattle.rl_line.proofs.Common.{Ahead, Back, Begin, Bool, Change, Changed, End, Entry, Err, IfOk, IsCharBoundary, IsSome, IsUtf8, List, None, Ok, Option, Refusal, Result, Some, Way, [], ap, arith, bytes_eq, common_steps, cond, cursor_stands, cursor_told, entry_of, entry_to_undo, event_of, false, get_or, inverse, is_boundary, is_some, is_utf8, is_utf8-from_IsUtf8, length, length-reverse, map, new_text, old_text, option_and_then, option_map_or, order, place, place_after, refl, replace_range, reverse, same_Some, slice_range, subst, sym, take, text_after, text_back, true, unwind, ℕ, ◌&&◌, ◌++◌, ◌+◌, ◌<◌, ◌∙◌, ◌∷◌, ◌≡◌, ◌≤◌}
use Rattle.rl_base.proofs.Texts.EventLemmas.{Replaces-from_IsSome}
use Rattle.rl_base.proofs.Texts.TextLemmas.{is_boundary-means, is_boundary-true, stands_at-means, stands_at-true}
use Rattle.rl_base.specs.Event.{apply}
use Rattle.rl_base.specs.Text.{fits_at, stands_at}
use Rattle.rl_line.proofs.Changes.InverseLemmas.{map-reverse, then_both, then_some}
use Rattle.rl_line.proofs.Changes.PatchLemmas.{length-replaced}
use Rattle.rl_line.proofs.Changes.PatchLemmas.{patched-stands, patched-swap}
use Rattle.std.proofs.lemmas.List.Edits.{between_none}
use Rattle.std.proofs.lemmas.Str.{IsUtf8-nil}

-- an entry's new text stands at its place, and the old one may take its place
pub record StandsNew (e : Entry) (text : List ℕ) (at : ℕ) : Type 0 where
  pub start : IsCharBoundary text at
  pub end : IsCharBoundary text (at + length (new_text e))
  pub bytes : slice_range text at (at + length (new_text e)) ≡ new_text e
  pub makes : apply (event_of (inverse e)) text ≡ Some (replace_range text at (at + length (new_text e)) (old_text e))

pub StandsNew-from_IsSome : (e : Entry) (text : List ℕ) (at : ℕ) → place e ≡ Some at → IsSome (apply (event_of (inverse e)) text) → StandsNew e text at
StandsNew-from_IsSome (Changed k c) text at p h =
    let same : c.place ≡ at = cc in
    let d = Replaces-from_IsSome text c.place c.new c.old h in
    subst (λ j. StandsNew (Changed k c) text j) same (record { start = d.stands.start; end = d.stands.end; bytes = d.stands.bytes; makes = d.makes })
StandsNew-from_IsSome mark text at p h = cc

-- a mark leaves the text
pub mark-leaves : (e : Entry) (text : List ℕ) → place e ≡ None → apply (event_of (inverse e)) text ≡ Some text
unfolding apply
mark-leaves (Changed k c) text p = cc
mark-leaves mark text p = refl

place-inverse : (e : Entry) → place (inverse e) ≡ place e
place-inverse Begin = refl
place-inverse End = refl
place-inverse (Changed k c) = refl

-- where the cursor goes where an entry is taken back, if it was not told
pub place_after-is : (e : Entry) (at cursor : ℕ) → place e ≡ Some at → place_after cursor (inverse e) ≡ at + length (old_text e)
place_after-is (Changed k c) at cursor p = let same : c.place ≡ at = cc in ap (λ j. j + length c.old) same
place_after-is mark at cursor p = cc

-- both ways the place is the same
pub place-entry_to_undo : (way : Way) (change : Change) → place (entry_to_undo way change) ≡ place (entry_of change)
place-entry_to_undo Back change = refl
place-entry_to_undo Ahead change = place-inverse (entry_of change)

-- ---- whether a text can go over an entry
tested : {A : Type 0} (b : Bool) (a : A) → is_some (cond b (Some a) None) ≡ b
tested true a = refl
tested false a = refl

right_true : (a b : Bool) → b ≡ true → (a && b) ≡ a
right_true true b e = e
right_true false b e = refl

-- it can where the new text stands at the place
pub fits-is : (e : Entry) (text : List ℕ) (at : ℕ) → place e ≡ Some at → IsUtf8 (old_text e) → is_some (apply (event_of (inverse e)) text) ≡ stands_at text at (new_text e)
unfolding apply fits_at
fits-is (Changed k c) text at p u =
    let same : c.place ≡ at = cc in
    tested (stands_at text c.place c.new && is_utf8 c.old) _ ∙ right_true (stands_at text c.place c.new) (is_utf8 c.old) (is_utf8-from_IsUtf8 c.old u) ∙ ap (λ j. stands_at text j c.new) same
fits-is mark text at p u = cc

-- and what is made then is what the replacement makes
pub patch-makes : (result : Result Bool Refusal) (e : Entry) (text now : List ℕ) (at : ℕ) (going coming : List ℕ) → place e ≡ Some at → IsUtf8 (old_text e)
    → going ≡ new_text e → coming ≡ old_text e → IfOk result (λ stands. stands ≡ stands_at text at going)
    → IfOk result (λ stands. stands ≡ true → now ≡ replace_range text at (at + length going) coming)
    → IfOk result (λ fits. fits ≡ true → apply (event_of (inverse e)) text ≡ Some now)
patch-makes (Ok stands) e text now at going coming p u goes comes is makes = λ yes.
    let d = StandsNew-from_IsSome e text at p (fits-is e text at p u ∙ ap (stands_at text at) (sym goes) ∙ sym is ∙ yes) in
    d.makes ∙ ap Some (ap (λ t. replace_range text at (at + length t) (old_text e)) (sym goes) ∙ ap (replace_range text at (at + length going)) (sym comes) ∙ sym (makes yes))
patch-makes (Err r) e text now at going coming p u goes comes is makes = makes

-- a text grows by no more than what comes
pub longer-by : (e : Entry) (text next : List ℕ) → apply (event_of (inverse e)) text ≡ Some next → length next ≤ length text + length (old_text e)
longer-by e text next h = from (place e) refl
  where
    from : (o : Option ℕ) → place e ≡ o → length next ≤ length text + length (old_text e)
    from None p = let same : text ≡ next = same_Some text next (sym (mark-leaves e text p) ∙ h) in omega (arith, ap length same)
    from (Some at) p =
        let d = StandsNew-from_IsSome e text at p (ap is_some h) in
        let made : replace_range text at (at + length (new_text e)) (old_text e) ≡ next = same_Some _ next (sym d.makes ∙ h) in
        omega (arith, ap length made, length-replaced text at (at + length (new_text e)) (old_text e) (omega arith))

-- what stands between two boundaries is told by its bytes
pub stands_at-is : (text : List ℕ) (i : ℕ) (s : List ℕ) → IsUtf8 s → IsCharBoundary text i → IsCharBoundary text (i + length s) → stands_at text i s ≡ bytes_eq (slice_range text i (i + length s)) s
unfolding stands_at
stands_at-is text i s u b e = rw (is_utf8-from_IsUtf8 s u, is_boundary-true text i b, is_boundary-true text (i + length s) e) refl

pub stands_at-not : (text : List ℕ) (i : ℕ) (s : List ℕ) → (IsCharBoundary text i → IsCharBoundary text (i + length s) → ⊥) → false ≡ stands_at text i s
stands_at-not text i s h = grind (arith, stands_at-means)

-- an empty text stands at each place between two characters
pub stands_at-nothing : (text : List ℕ) (i : ℕ) (s : List ℕ) → length s ≡ 0 → IsCharBoundary text i → true ≡ stands_at text i s
stands_at-nothing text i [] none at =
    let here : i + 0 ≡ i = omega arith in
    sym (stands_at-true text i [] IsUtf8-nil at (subst (IsCharBoundary text) (sym here) at) (ap (slice_range text i) here ∙ between_none text i))
stands_at-nothing text i (x ∷ s) none at = cc

-- ---- the order in which changes are gone over
pub length-order : (way : Way) (xs : List Change) → length (order way xs) ≡ length xs
length-order Back xs = refl
length-order Ahead xs = length-reverse xs

-- going ahead takes the inverses back
pub ahead-inverse : (xs : List Change) → map (entry_to_undo Ahead) (order Ahead xs) ≡ map inverse (reverse (map entry_of xs))
ahead-inverse xs = each (reverse xs) ∙ ap (map inverse) (map-reverse entry_of xs)
  where
    each : (ys : List Change) → map (entry_to_undo Ahead) ys ≡ map inverse (map entry_of ys)
    each [] = refl
    each (y ∷ ys) = ap (λ l. inverse (entry_of y) ∷ l) (each ys)

-- ---- a text that goes over changes, the last first
-- those before n are left, and lead from the text now to where all lead from the text at first
pub record GoesOver (asks : Bool) (way : Way) (xs : List Change) (n : ℕ) (text now : List ℕ) : Type 0 where
  pub rest : text_back asks (map (entry_to_undo way) (take n xs)) now ≡ text_back asks (map (entry_to_undo way) xs) text
  pub within : n ≤ length xs

pub text_back-append : (asks : Bool) (xs ys : List Entry) (text : List ℕ) → text_back asks (xs ++ ys) text ≡ option_and_then (text_back asks xs) (text_back asks ys text)
text_back-append asks [] ys text = sym (then_some (text_back asks ys text))
text_back-append asks (x ∷ xs) ys text =
    ap (option_and_then (text_after asks (inverse x))) (text_back-append asks xs ys text)
    ∙ sym (then_both (text_back asks (x ∷ xs)) (text_back asks xs) (text_after asks (inverse x)) (λ t. refl) (text_back asks ys text))

last_one : (asks : Bool) (way : Way) (xs : List Change) (m : ℕ) (x : Change) (now : List ℕ) → m < length xs → x ≡ get_or xs m x
    → text_back asks (map (entry_to_undo way) (take (m + 1) xs)) now ≡ option_and_then (text_back asks (map (entry_to_undo way) (take m xs))) (text_after asks (inverse (entry_to_undo way x)) now)
last_one asks way xs m x now lt e = grind (arith, common_steps, text_back-append)

pub GoesOver-next : (asks : Bool) (way : Way) (xs : List Change) (m : ℕ) (x : Change) (text now next : List ℕ) → m < length xs → x ≡ get_or xs m x → GoesOver asks way xs (m + 1) text now
    → apply (event_of (inverse (entry_to_undo way x))) now ≡ Some next → cursor_stands asks (inverse (entry_to_undo way x)) next ≡ true → GoesOver asks way xs m text next
GoesOver-next asks way xs m x text now next lt e g h stands = record {
  rest =
      let one : text_after asks (inverse (entry_to_undo way x)) now ≡ Some next =
      ap (option_and_then (λ t. cond (cursor_stands asks (inverse (entry_to_undo way x)) t) (Some t) None)) h ∙ ap (λ b. cond b (Some next) None) stands in
      sym (last_one asks way xs m x now lt e ∙ ap (option_and_then (text_back asks (map (entry_to_undo way) (take m xs)))) one) ∙ g.rest;
  within = omega arith;
}

-- one that does not fit, or whose cursor would not stand
goes_not : (asks : Bool) (way : Way) (xs : List Change) (m : ℕ) (x : Change) (text now : List ℕ) → m < length xs → x ≡ get_or xs m x → GoesOver asks way xs (m + 1) text now
    → text_after asks (inverse (entry_to_undo way x)) now ≡ None → None ≡ text_back asks (map (entry_to_undo way) xs) text
goes_not asks way xs m x text now lt e g h =
    sym (ap (option_and_then (text_back asks (map (entry_to_undo way) (take m xs)))) h) ∙ sym (last_one asks way xs m x now lt e) ∙ g.rest

pub GoesOver-not : (asks : Bool) (way : Way) (xs : List Change) (m : ℕ) (x : Change) (text now : List ℕ) → m < length xs → x ≡ get_or xs m x → GoesOver asks way xs (m + 1) text now
    → is_some (apply (event_of (inverse (entry_to_undo way x))) now) ≡ false → None ≡ text_back asks (map (entry_to_undo way) xs) text
GoesOver-not asks way xs m x text now lt e g h =
    goes_not asks way xs m x text now lt e g (none (apply (event_of (inverse (entry_to_undo way x))) now) h)
  where
    none : (o : Option (List ℕ)) → is_some o ≡ false → option_and_then (λ t. cond (cursor_stands asks (inverse (entry_to_undo way x)) t) (Some t) None) o ≡ None
    none None h = refl
    none (Some t) h = cc

pub GoesOver-astray : (asks : Bool) (way : Way) (xs : List Change) (m : ℕ) (x : Change) (text now next : List ℕ) → m < length xs → x ≡ get_or xs m x → GoesOver asks way xs (m + 1) text now
    → apply (event_of (inverse (entry_to_undo way x))) now ≡ Some next → cursor_stands asks (inverse (entry_to_undo way x)) next ≡ false → None ≡ text_back asks (map (entry_to_undo way) xs) text
GoesOver-astray asks way xs m x text now next lt e g h astray =
    goes_not asks way xs m x text now lt e g
    (ap (option_and_then (λ t. cond (cursor_stands asks (inverse (entry_to_undo way x)) t) (Some t) None)) h ∙ ap (λ b. cond b (Some next) None) astray)

-- where no cursor is asked for, that is unwinding
pub text_back-unwind : (es : List Entry) (text : List ℕ) → text_back false es text ≡ unwind es text
text_back-unwind [] text = refl
text_back-unwind (e ∷ es) text = ap (option_and_then (text_after false (inverse e))) (text_back-unwind es text) ∙ from (unwind es text)
  where
    from : (o : Option (List ℕ)) → option_and_then (text_after false (inverse e)) o ≡ option_and_then (apply (event_of (inverse e))) o
    from None = refl
    from (Some t) = then_some (apply (event_of (inverse e)) t)

-- the test of a cursor that was told
pub cursor_stands-told : (asks : Bool) (e : Entry) (text : List ℕ) (cursor : ℕ) (b : Bool) → asks ≡ true → cursor_told e ≡ Some cursor
    → b ≡ is_boundary text cursor → b ≡ cursor_stands asks e text
cursor_stands-told false e text cursor b asked told test = cc
cursor_stands-told true e text cursor b asked told test = test ∙ ap (λ o. option_map_or (is_boundary text) o true) (sym told)

-- ---- a text that goes over one entry, where the cursor is asked for
-- what stands at a place, and the test of the cursor, by the parts of an entry
pub leads-by : (e : Entry) (text : List ℕ) (at : ℕ) (going coming : List ℕ) (told : Option ℕ) → place e ≡ Some at → IsUtf8 (old_text e) → going ≡ new_text e → coming ≡ old_text e
    → told ≡ cursor_told (inverse e)
    → (stands_at text at going && option_map_or (is_boundary (replace_range text at (at + length going) coming)) told true) ≡ is_some (text_after true (inverse e) text)
leads-by e text at going coming told p u goes comes tells =
    ap (λ g. stands_at text at g && option_map_or (is_boundary (replace_range text at (at + length g) coming)) told true) goes
    ∙ ap (λ c. stands_at text at (new_text e) && option_map_or (is_boundary (replace_range text at (at + length (new_text e)) c)) told true) comes
    ∙ ap (λ o. stands_at text at (new_text e) && option_map_or (is_boundary (replace_range text at (at + length (new_text e)) (old_text e))) o true) tells
    ∙ by (stands_at text at (new_text e)) refl
  where
    left : (o : Option (List ℕ)) → is_some o ≡ false → is_some (option_and_then (λ now. cond (cursor_stands true (inverse e) now) (Some now) None) o) ≡ false
    left None h = refl
    left (Some t) h = cc

    by : (b : Bool) → stands_at text at (new_text e) ≡ b
        → (b && option_map_or (is_boundary (replace_range text at (at + length (new_text e)) (old_text e))) (cursor_told (inverse e)) true) ≡ is_some (text_after true (inverse e) text)
    by true h =
        let d = StandsNew-from_IsSome e text at p (fits-is e text at p u ∙ h) in
        sym (ap (λ o. is_some (option_and_then (λ now. cond (cursor_stands true (inverse e) now) (Some now) None) o)) d.makes ∙ tested (cursor_stands true (inverse e) _) _)
    by false h = sym (left (apply (event_of (inverse e)) text) (fits-is e text at p u ∙ h))

-- a line that can't go over an entry has no next one
pub none-reached : {A : Type 0} (o : Option A) → is_some o ≡ false → o ≡ None
none-reached None h = refl
none-reached (Some x) h = cc

pub ruleset over_one = (cursor_stands-told, fits-is, mark-leaves, patch-makes, place-entry_to_undo)

pub ruleset stood = (stands_at-is, stands_at-not, stands_at-nothing)

pub ruleset patches = (length-replaced, patched-stands, patched-swap, stands_at-not, is_boundary-means, is_boundary-true, stands_at-means)
