-- Splices of texts, one after another.
use Rattle.rl_base.proofs.Common.{◌≡◌, ℕ, ◌+◌, ◌-◌, ◌^◌, ◌<◌, ◌≤◌, ◌⊎◌, inl, inr, min, max, Bool, true, false, cond, List, [], ◌++◌, length, take, drop, get_or, slice_range, Some, None, MatchOption, refl, sym, ap, subst, ◌∙◌, arith, append_assoc, cases_lt, ltb-true, ltb-false, length-take, length-take-le, length-drop, take-take, drop-drop, get_or-take, get_or-drop, take-append-drop, drop_split, same_Some, encode_utf8, nat_lt, nat_tests, IsCharBoundary, IsUtf8, Side, Splice, Event, InsertChar, InsertStr, Delete, Replace, Stop, Cursors, Covers, Outlasts, Splices, capped, folded, inverse, moved, spliced, told, untouched}
use Rattle.rl_base.specs.Event.{Start, apply}
use Rattle.rl_base.specs.declared.splice.Side.TheVariants.{Before, After}
use Rattle.rl_base.proofs.Texts.TextLemmas.{drop-middle, take-middle}
use Rattle.rl_base.proofs.Texts.SwapLemmas.{Swaps, Swaps-Delete, Swaps-InsertChar, Swaps-InsertStr, Swaps-Replace, Swaps-back, Swaps-stands}

-- texts with the same front have the same boundaries in it
same_front : (x y : List ℕ) (j k : ℕ) → take j x ≡ take j y → k < j → j ≤ length y → IsCharBoundary x k → IsCharBoundary y k
same_front x y j k e l in_y b =
    let lens : length (take j x) ≡ j = ap length e ∙ length-take-le j y in_y in
    let in_x : j ≤ length x = omega (arith, lens, length-take j x) in
    let byte : get_or x k 0 ≡ get_or y k 0 = sym (get_or-take j x k 0 l) ∙ ap (λ z. get_or z k 0) e ∙ get_or-take j y k 0 l in
    (omega arith, λ _ h. rw (← byte) (b.1 (omega arith) (rw byte h)))

boundary-before : (x y : List ℕ) (j k : ℕ) → take j x ≡ take j y → k ≤ j → IsCharBoundary x k → IsCharBoundary y j → IsCharBoundary y k
boundary-before x y j k e le b end = from (cases_lt k j)
  where
    from : (k < j) ⊎ (j ≤ k) → IsCharBoundary y k
    from (inl l) = same_front x y j k e l end.0 b
    from (inr l) = subst (IsCharBoundary y) {x = j} {y = k} (omega arith) end

-- and texts with the same end in that
boundary-after : (x y : List ℕ) (j l d : ℕ) → drop j x ≡ drop l y → j ≤ length x → l ≤ length y → IsCharBoundary x (j + d) → IsCharBoundary y (l + d)
boundary-after x y j l d e in_x in_y b =
    let lens : length x - j ≡ length y - l = sym (length-drop j x) ∙ ap length e ∙ length-drop l y in
    let byte : get_or x (j + d) 0 ≡ get_or y (l + d) 0 = sym (get_or-drop j x d 0) ∙ ap (λ z. get_or z d 0) e ∙ get_or-drop l y d 0 in
    let within : j + d ≤ length x = b.0 in
    (omega arith, λ m h. rw (← byte) (b.1 (omega arith) (rw byte h)))

-- two splices, one after the other, are one: from where the first of them begins to where the last of them ends
pub Splices-join : (s t : Splice) (old text new : List ℕ) (from end old_end new_end : ℕ) → Splices s old text → Splices t text new
    → from ≡ min s.from t.from → end ≡ max s.new_end t.old_end → old_end ≡ s.old_end + (end - s.new_end) → new_end ≡ (t.new_end + end) - t.old_end
    → Splices (record { from = from; old_end = old_end; new_end = new_end }) old new
Splices-join s t old text new from end old_end new_end p q f e o n =
    let by_s : from ≤ s.from = omega (arith, f) in
    let by_t : from ≤ t.from = omega (arith, f) in
    let past_s : s.new_end + (end - s.new_end) ≡ end = omega (arith, e) in
    let past_t : t.old_end + (end - t.old_end) ≡ end = omega (arith, e) in
    let in_new : new_end ≡ t.new_end + (end - t.old_end) = omega (arith, e, n) in
    record {
      old_order = omega (arith, p.old_order, by_s, o);
      new_order = omega (arith, q.new_order, by_t, in_new);
      old_from = begins_old (cases_lt t.from s.from);
      new_from = begins_new (cases_lt t.from s.from);
      old_to = subst (IsCharBoundary old) (sym o) (boundary-after text old s.new_end s.old_end (end - s.new_end) (sym p.after) p.new_to.0 p.old_to.0 (subst (IsCharBoundary text) (sym past_s) (ends (cases_lt t.old_end s.new_end))));
      new_to = subst (IsCharBoundary new) (sym in_new) (boundary-after text new t.old_end t.new_end (end - t.old_end) q.after q.old_to.0 q.new_to.0 (subst (IsCharBoundary text) (sym past_t) (ends (cases_lt t.old_end s.new_end))));
      before = sym (take-take from s.from old by_s) ∙ ap (take from) p.before ∙ take-take from s.from text by_s
          ∙ sym (take-take from t.from text by_t) ∙ ap (take from) q.before ∙ take-take from t.from new by_t;
      after = ap (λ k. drop k old) o ∙ sym (drop-drop (end - s.new_end) s.old_end old) ∙ ap (drop (end - s.new_end)) p.after ∙ drop-drop (end - s.new_end) s.new_end text
          ∙ ap (λ k. drop k text) (past_s ∙ sym past_t) ∙ sym (drop-drop (end - t.old_end) t.old_end text) ∙ ap (drop (end - t.old_end)) q.after ∙ drop-drop (end - t.old_end) t.new_end new
          ∙ ap (λ k. drop k new) (sym in_new);
    }
  where
    ends : (t.old_end < s.new_end) ⊎ (s.new_end ≤ t.old_end) → IsCharBoundary text end
    ends (inl l) = subst (IsCharBoundary text) {x = s.new_end} {y = end} (omega (arith, e)) p.new_to
    ends (inr l) = subst (IsCharBoundary text) {x = t.old_end} {y = end} (omega (arith, e)) q.old_to

    begins_old : (t.from < s.from) ⊎ (s.from ≤ t.from) → IsCharBoundary old from
    begins_old (inl l) =
        subst (IsCharBoundary old) {x = t.from} {y = from} (omega (arith, f)) (boundary-before text old s.from t.from (sym p.before) (omega arith) q.old_from p.old_from)
    begins_old (inr l) = subst (IsCharBoundary old) {x = s.from} {y = from} (omega (arith, f)) p.old_from

    begins_new : (t.from < s.from) ⊎ (s.from ≤ t.from) → IsCharBoundary new from
    begins_new (inl l) = subst (IsCharBoundary new) {x = t.from} {y = from} (omega (arith, f)) q.new_from
    begins_new (inr l) =
        subst (IsCharBoundary new) {x = s.from} {y = from} (omega (arith, f)) (boundary-before text new t.from s.from q.before l p.new_from q.new_from)

-- a splice by its numbers
pub Splices-as : (old new : List ℕ) (a b c d e f : ℕ) → a ≡ d → b ≡ e → c ≡ f → Splices (record { from = a; old_end = b; new_end = c }) old new
    → Splices (record { from = d; old_end = e; new_end = f }) old new
Splices-as old new a b c d e f g h i s = rw (← g, ← h, ← i) s

capped-is : (n : ℕ) → n < 2 ^ 64 → capped n ≡ n
capped-is n l = omega arith

-- what covers two texts covers one more splice
pub Covers-more : (s : Splice) (i gone come : ℕ) (old text new : List ℕ) → Covers s old text → Splices (record { from = i; old_end = i + gone; new_end = i + come }) text new
    → length text < 2 ^ 64 → length new < 2 ^ 64 → Covers (folded s i gone come) old new
Covers-more s i gone come old text new c t in_text in_new = record { utf8 = c.utf8; fits = c.fits; differ = inr (from c.differ) }
  where
    whole : i + gone ≤ length text
    whole = t.old_to.0

    whole_new : i + come ≤ length new
    whole_new = t.new_to.0

    from : ((s ≡ untouched) × (text ≡ old)) ⊎ Splices s old text → Splices (folded s i gone come) old new
    from (inl same) =
        rw (same.0, ← same.1)
        (Splices-as text new i (i + gone) (i + come) _ _ _ (omega arith) (omega arith) (omega arith) t)
    from (inr p) =
        let end = max s.new_end (capped (i + gone)) in
        let is : capped (i + gone) ≡ i + gone = capped-is (i + gone) (omega arith) in
        let old_to : s.old_end ≤ length old = p.old_to.0 in
        let all = Splices-join s (record { from = i; old_end = i + gone; new_end = i + come }) old text new (min s.from i) end (s.old_end + (end - s.new_end)) ((i + come + end) - (i + gone)) p t
        refl (ap (max s.new_end) is) refl refl in
        Splices-as old new (min s.from i) (s.old_end + (end - s.new_end)) ((i + come + end) - (i + gone)) _ _ _ refl
        (sym (capped-is _ (omega (arith, all.old_to.0, c.fits))))
        (sym (capped-is _ (omega (arith, all.new_to.0))) ∙ ap capped (omega (arith, is)))
        all

-- a change of a text is a splice
pub Splices-Swaps : (text after : List ℕ) (i : ℕ) (old new : List ℕ) → Swaps text after i old new
    → Splices (record { from = i; old_end = i + length old; new_end = i + length new }) text after
Splices-Swaps text after i old new s =
    let went = Swaps-stands text after i old new s in
    let came = Swaps-stands after text i new old (Swaps-back text after i old new s) in
    record {
      old_order = omega arith;
      new_order = omega arith;
      old_from = went.start;
      new_from = came.start;
      old_to = went.end;
      new_to = came.end;
      before = take-middle text s.front old s.rest i s.text_is s.place ∙ sym (take-middle after s.front new s.rest i s.after_is s.place);
      after = drop-middle text s.front old s.rest i s.text_is s.place ∙ sym (drop-middle after s.front new s.rest i s.after_is s.place);
    }

-- what covers all that changed covers it with one more change
Covers-Swaps : (s : Splice) (old text new : List ℕ) (i : ℕ) (gone come : List ℕ) → Covers s old text → length text < 2 ^ 64 → length new < 2 ^ 64 → Swaps text new i gone come
    → Covers (folded s i (length gone) (length come)) old new
Covers-Swaps s old text new i gone come c between large q = Covers-more s i (length gone) (length come) old text new c (Splices-Swaps text new i gone come q) between large

pub Covers-apply : (s : Splice) (event : Event) (old text new : List ℕ) → Covers s old text → IsUtf8 text → length text < 2 ^ 64 → length new < 2 ^ 64 → apply event text ≡ Some new → Covers (spliced s event) old new
unfolding apply
Covers-apply s (InsertChar i c) old text new h u between large e = Covers-Swaps s old text new i [] (encode_utf8 c) h between large (Swaps-InsertChar text new i c u e)
Covers-apply s (InsertStr i t) old text new h u between large e = Covers-Swaps s old text new i [] t h between large (Swaps-InsertStr text new i t u e)
Covers-apply s (Delete i t side) old text new h u between large e = Covers-Swaps s old text new i t [] h between large (Swaps-Delete text new i t side u e)
Covers-apply s (Replace i t w) old text new h u between large e = Covers-Swaps s old text new i t w h between large (Swaps-Replace text new i t w u e)
Covers-apply s Start old text new h u between large e = subst (Covers s old) (same_Some text new e) h
Covers-apply s Stop old text new h u between large e = subst (Covers s old) (same_Some text new e) h
Covers-apply s (Cursors b a) old text new h u between large e = subst (Covers s old) (same_Some text new e) h

-- what is told of all that changed
pub told-means : (s : Splice) (old new : List ℕ) → Covers s old new → MatchOption (told s) (new ≡ old) (λ t. Splices t old new)
told-means s old new c = from (nat_lt s.from (max s.old_end s.new_end)) refl c.differ
  where
    from : (b : Bool) → nat_lt s.from (max s.old_end s.new_end) ≡ b → ((s ≡ untouched) × (new ≡ old)) ⊎ Splices s old new → MatchOption (cond b (Some s) None) (new ≡ old) (λ t. Splices t old new)
    from true h (inr p) = p
    from true h (inl (e, same)) =
        let none : nat_lt (2 ^ 64 - 1) (max 0 0) ≡ true = sym (ap (λ (k : Splice). nat_lt k.from (max k.old_end k.new_end)) e) ∙ h in
        absurd (omega (arith, ltb-true (2 ^ 64 - 1) (max 0 0) none))
    from false h (inl (e, same)) = same
    from false h (inr p) =
        let l = ltb-false s.from (max s.old_end s.new_end) h in
        let old_to : s.old_end ≡ s.from = omega (arith, p.old_order) in
        let new_to : s.new_end ≡ s.from = omega (arith, p.new_order) in
        sym (take-append-drop s.from new) ∙ ap (λ k. take s.from new ++ drop k new) (sym new_to) ∙ ap (λ k. take s.from new ++ k) (sym p.after)
        ∙ ap (λ k. k ++ drop s.old_end old) (sym p.before) ∙ ap (λ k. take s.from old ++ drop k old) old_to ∙ take-append-drop s.from old

-- each text of a splice is made of the other
pub Splices-new : (s : Splice) (old new : List ℕ) → Splices s old new → take s.from old ++ slice_range new s.from s.new_end ++ drop s.old_end old ≡ new
Splices-new s old new p =
    ap (λ k. k ++ slice_range new s.from s.new_end ++ drop s.old_end old) p.before ∙ ap (λ k. take s.from new ++ slice_range new s.from s.new_end ++ k) p.after
    ∙ append_assoc (take s.from new) (slice_range new s.from s.new_end) (drop s.new_end new)
    ∙ ap (λ k. take s.from new ++ k) (sym (drop_split new s.from s.new_end p.new_order)) ∙ take-append-drop s.from new

pub Splices-old : (s : Splice) (old new : List ℕ) → Splices s old new → take s.from new ++ slice_range old s.from s.old_end ++ drop s.new_end new ≡ old
Splices-old s old new p =
    ap (λ k. k ++ slice_range old s.from s.old_end ++ drop s.new_end new) (sym p.before) ∙ ap (λ k. take s.from old ++ slice_range old s.from s.old_end ++ k) (sym p.after)
    ∙ append_assoc (take s.from old) (slice_range old s.from s.old_end) (drop s.old_end old)
    ∙ ap (λ k. take s.from old ++ k) (sym (drop_split old s.from s.old_end p.old_order)) ∙ take-append-drop s.from old

-- what the theorems on splices say
pub ruleset splicing = (Covers-apply, told-means, Splices-new, Splices-old)

-- a place that moves with a splice stays between two characters
pub moved-stands : (s : Splice) (side : Side) (old new : List ℕ) (place : ℕ) → Splices s old new → IsCharBoundary old place → IsCharBoundary new (moved s side place)
moved-stands s side old new place p b = from side
  where
    front : place ≤ s.from → IsCharBoundary new place
    front l = boundary-before old new s.from place p.before l b p.new_from

    past : s.old_end ≤ place → IsCharBoundary new (s.new_end + (place - s.old_end))
    past l = boundary-after old new s.old_end s.new_end (place - s.old_end) p.after p.old_to.0 p.new_to.0 (subst (IsCharBoundary old) {x = place} {y = s.old_end + (place - s.old_end)} (omega arith) b)

    from : (side : Side) → IsCharBoundary new (moved s side place)
    from Before = grind (arith, nat_tests, front, past, p.new_from)
    from After = grind (arith, nat_tests, front, past, p.new_to)

-- the text on its side is what it was
pub moved-before : (s : Splice) (old new : List ℕ) (place : ℕ) → Splices s old new → place ≤ s.from → take (moved s Before place) new ≡ take place old
moved-before s old new place p l =
    let stays : moved s Before place ≡ place = grind (arith, nat_tests, l) in
    ap (λ k. take k new) stays ∙ sym (take-take place s.from new l) ∙ ap (take place) (sym p.before) ∙ take-take place s.from old l

pub moved-after : (s : Splice) (old new : List ℕ) (place : ℕ) → Splices s old new → s.old_end ≤ place → drop (moved s After place) new ≡ drop place old
moved-after s old new place p l =
    let after = place - s.old_end in
    let goes : moved s After place ≡ s.new_end + after = grind (arith, nat_tests, l) in
    let is : s.old_end + after ≡ place = omega arith in
    ap (λ k. drop k new) goes ∙ sym (drop-drop after s.new_end new) ∙ ap (drop after) (sym p.after) ∙ drop-drop after s.old_end old ∙ ap (λ k. drop k old) is

-- and the inverse splice leads back
pub moved-back : (s : Splice) (side : Side) (old new : List ℕ) (place : ℕ) → Splices s old new → Outlasts s side place → moved (inverse s) side (moved s side place) ≡ place
moved-back s Before old new place p o = grind (arith, nat_tests, p.old_order, p.new_order)
moved-back s After old new place p o = grind (arith, nat_tests, p.old_order, p.new_order)

-- what the theorem on places says
pub ruleset moving = (moved-stands, moved-before, moved-after, moved-back)
