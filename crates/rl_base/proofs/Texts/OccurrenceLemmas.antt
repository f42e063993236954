-- What a search for a text finds is its nearest occurrence, and is what a search of bytes finds.
use Rattle.rl_base.proofs.Common.{◌≡◌, ℕ, zero, suc, ◌+◌, ◌-◌, ◌<◌, ◌≤◌, ◌⊎◌, inl, inr, Bool, true, false, ◌&&◌, nat_le, nat_lt, cond, List, [], ◌∷◌, ◌++◌, length, reverse, reverse-append, take, take_all, drop, get_or, get_or-drop, get_or-take, length-drop, length-take-le, slice_range, Option, Some, None, option_map, MatchOption, IfSome, find, refl, sym, ap, subst, ◌∙◌, arith, eq-eqb, eq-or-lt_of_le, and_parts, leb-true, ltb-true, IsUtf8, IsCharBoundary, IsCharBoundary-from_drop, IsCharBoundary-start, IsUtf8-drop, stands_at, Direction}
use Rattle.std.specs.declared.ops.Range.{Range}
use Rattle.std.proofs.lemmas.Bool.{and_from, le-leb, lt-ltb, false≢true}
use Rattle.std.specs.List.{range_with_len}
use Rattle.unicode_segmentation.proofs.TextLemmas.{IsUtf8-after}
use Rattle.memchr.specs.Find.{IsFirst, IsFirstByte, IsLast, NoneBefore, Nowhere, OccursAt, FindsNeedle, FindsLastNeedle, Passes, is_byte}
use Rattle.memchr.proofs.lemmas.FindLemmas.{Nowhere-then}
use Rattle.memchr.proofs.lemmas.MatchLemmas.{OccursAt-part, OccursAt-from_part, OccursAt-split}
use Rattle.rl_base.specs.Search.{occurs, occurrence, range_at, find_text, IsNearest, HasNone}
use Rattle.rl_base.specs.declared.listeners.Direction.TheVariants.{Forward, Backward}
use Rattle.rl_base.proofs.Texts.TextLemmas.{stands_at-true, stands_at-means}

-- ---- the first of some numbers that pass a test, and the last
module _ (p : ℕ → Bool) where
  first_after : (a j : ℕ) (r : Option ℕ) → p a ≡ false → IsFirst (λ k. p k ≡ true) (a + 1) j r → IsFirst (λ k. p k ≡ true) a j r
  first_after a j None miss rest = λ k low high is. by k high is (eq-or-lt_of_le low)
    where
      by : (k : ℕ) → k < j → p k ≡ true → (a ≡ k) ⊎ (a < k) → ⊥
      by k high is (inl e) = false≢true (sym miss ∙ ap p e ∙ is)
      by k high is (inr l) = rest k (omega arith) high is
  first_after a j (Some found) miss rest = (
    record {
      low = omega (arith, rest.0.low);
      high = rest.0.high;
      before = λ k low high is. by k high is (eq-or-lt_of_le low);
    },
    rest.1,
  )
    where
      by : (k : ℕ) → k < found → p k ≡ true → (a ≡ k) ⊎ (a < k) → ⊥
      by k high is (inl e) = false≢true (sym miss ∙ ap p e ∙ is)
      by k high is (inr l) = rest.0.before k (omega arith) high is

  first_among : (n a j : ℕ) → j ≡ a + n → IsFirst (λ k. p k ≡ true) a j (find p (range_with_len a n))
  first_among zero a j e = λ k low high is. omega arith
  first_among (suc n) a j e = by (p a) refl (first_among n (a + 1) j (omega arith))
    where
      by : (b : Bool) → p a ≡ b → IsFirst (λ k. p k ≡ true) (a + 1) j (find p (range_with_len (a + 1) n))
          → IsFirst (λ k. p k ≡ true) a j (cond b (Some a) (find p (range_with_len (a + 1) n)))
      by true hit rest = (record { low = omega arith; high = omega arith; before = λ k low high is. omega arith }, hit)
      by false miss rest = first_after a j _ miss rest

  range_push : (n a : ℕ) → range_with_len a (suc n) ≡ range_with_len a n ++ (a + n) ∷ []
  range_push zero a = let same : a ≡ a + 0 = omega arith in ap (λ x. x ∷ []) same
  range_push (suc n) a = let same : a + 1 + n ≡ a + suc n = omega arith in ap (λ l. a ∷ l) (range_push n (a + 1) ∙ ap (λ x. range_with_len (a + 1) n ++ x ∷ []) same)

  last_before : (n : ℕ) (r : Option ℕ) → p n ≡ false → IsLast (λ k. p k ≡ true) 0 n r → IsLast (λ k. p k ≡ true) 0 (suc n) r
  last_before n None miss rest = λ k low high is. let le : k ≤ n = omega arith in by k is (eq-or-lt_of_le le)
    where
      by : (k : ℕ) → p k ≡ true → (k ≡ n) ⊎ (k < n) → ⊥
      by k is (inl e) = false≢true (sym miss ∙ ap p (sym e) ∙ is)
      by k is (inr l) = rest k (omega arith) l is
  last_before n (Some found) miss rest = (
    record {
      low = omega arith;
      high = omega (arith, rest.0.high);
      after = λ k low high is. let le : k ≤ n = omega arith in by k low is (eq-or-lt_of_le le);
    },
    rest.1,
  )
    where
      by : (k : ℕ) → found + 1 ≤ k → p k ≡ true → (k ≡ n) ⊎ (k < n) → ⊥
      by k low is (inl e) = false≢true (sym miss ∙ ap p (sym e) ∙ is)
      by k low is (inr l) = rest.0.after k low l is

  last_among : (n : ℕ) → IsLast (λ k. p k ≡ true) 0 n (find p (reverse (range_with_len 0 n)))
  last_among zero = λ k low high is. omega arith
  last_among (suc n) =
      let same : 0 + n ≡ n = omega arith in
      let turned : reverse (range_with_len 0 (suc n)) ≡ n ∷ reverse (range_with_len 0 n) =
      ap reverse (range_push n 0 ∙ ap (λ x. range_with_len 0 n ++ x ∷ []) same) ∙ reverse-append (range_with_len 0 n) (n ∷ []) in
      subst (λ l. IsLast (λ k. p k ≡ true) 0 (suc n) (find p l)) (sym turned) (by (p n) refl (last_among n))
    where
      by : (b : Bool) → p n ≡ b → IsLast (λ k. p k ≡ true) 0 n (find p (reverse (range_with_len 0 n)))
          → IsLast (λ k. p k ≡ true) 0 (suc n) (cond b (Some n) (find p (reverse (range_with_len 0 n))))
      by true hit rest = (record { low = omega arith; high = omega arith; after = λ k low high is. omega arith }, hit)
      by false miss rest = last_before n _ miss rest

-- there is one first, and one last
module _ (P : ℕ → Type 0) (i j : ℕ) where
  first_same : (r s : Option ℕ) → IsFirst P i j r → IsFirst P i j s → r ≡ s
  first_same None None h g = refl
  first_same None (Some k) h g = absurd (h k g.0.low g.0.high g.1)
  first_same (Some k) None h g = absurd (g k h.0.low h.0.high h.1)
  first_same (Some k) (Some m) h g =
      let le : k ≤ m = not_less m k (λ l. h.0.before m g.0.low l g.1) in ap Some (by (eq-or-lt_of_le le))
    where
      not_less : (a b : ℕ) → (a < b → ⊥) → b ≤ a
      not_less a b not = grind arith

      by : (k ≡ m) ⊎ (k < m) → k ≡ m
      by (inl e) = e
      by (inr l) = absurd (g.0.before k h.0.low l h.1)

  last_same : (r s : Option ℕ) → IsLast P i j r → IsLast P i j s → r ≡ s
  last_same None None h g = refl
  last_same None (Some k) h g = absurd (h k g.0.low g.0.high g.1)
  last_same (Some k) None h g = absurd (g k h.0.low h.0.high h.1)
  last_same (Some k) (Some m) h g =
      let le : k ≤ m = not_less m k (λ l. g.0.after k (omega arith) h.0.high h.1) in ap Some (by (eq-or-lt_of_le le))
    where
      not_less : (a b : ℕ) → (a < b → ⊥) → b ≤ a
      not_less a b not = grind arith

      by : (k ≡ m) ⊎ (k < m) → k ≡ m
      by (inl e) = e
      by (inr l) = absurd (h.0.after m (omega arith) g.0.high g.1)

-- ---- where a text occurs
module _ (text sought : List ℕ) where
  occurs_bytes : (at : ℕ) → occurs text sought at ≡ true → OccursAt text sought at
  occurs_bytes at is =
      let stands = stands_at-means text at sought (and_parts (nat_lt 0 (length sought)) _ is).1 in
      OccursAt-from_part text sought at stands.end.0 (ap (λ k. take k (drop at text)) {x = length sought} {y = at + length sought - at} (omega arith) ∙ stands.bytes)

  -- no character begins with a byte by which one goes on: so text stands between two boundaries wherever its bytes do
  bytes_stand : (at : ℕ) → IsUtf8 text → IsUtf8 sought → 0 < length sought → OccursAt text sought at → stands_at text at sought ≡ true
  bytes_stand at u v some h =
      let first : get_or text at 0 ≡ get_or sought 0 0 = ap (λ k. get_or text k 0) {x = at} {y = at + 0} (omega arith) ∙ h.reads 0 some in
      let start : IsCharBoundary text at = (omega (arith, h.fits), λ l high. omega (arith, (IsCharBoundary-start sought v).1 some (omega arith))) in
      let rest = IsUtf8-after (drop at text) sought (drop (at + length sought) text) (IsUtf8-drop text at u start) v (OccursAt-split text sought at h) in
      stands_at-true text at sought v start (IsCharBoundary-from_drop text (at + length sought) h.fits rest)
      (ap (λ k. take k (drop at text)) {x = at + length sought - at} {y = length sought} (omega arith) ∙ OccursAt-part text sought at h)

  bytes_occur : (at : ℕ) → IsUtf8 text → IsUtf8 sought → 0 < length sought → OccursAt text sought at → occurs text sought at ≡ true
  bytes_occur at u v some h = and_from (nat_lt 0 (length sought)) _ (lt-ltb 0 (length sought) some) (bytes_stand at u v some h)

  -- in what stands from an offset on, and in what stands before one
  occurs_past : (from at : ℕ) → from ≤ length text → OccursAt (drop from text) sought at → OccursAt text sought (from + at)
  occurs_past from at within h = record {
    fits = omega (arith, h.fits, length-drop from text);
    reads = λ j l.
        let same : from + at + j ≡ from + (at + j) = omega arith in
        ap (λ k. get_or text k 0) same ∙ sym (get_or-drop from text (at + j) 0) ∙ h.reads j l;
  }

  past_occurs : (from at : ℕ) → from ≤ at → OccursAt text sought at → OccursAt (drop from text) sought (at - from)
  past_occurs from at low h = record {
    fits = omega (arith, h.fits, length-drop from text);
    reads = λ j l.
        let same : from + (at - from + j) ≡ at + j = omega arith in
        get_or-drop from text (at - from + j) 0 ∙ ap (λ k. get_or text k 0) same ∙ h.reads j l;
  }

  occurs_within : (end at : ℕ) → end ≤ length text → OccursAt (take end text) sought at → OccursAt text sought at
  occurs_within end at within h =
      let width = length-take-le end text within in
      record {
        fits = omega (arith, h.fits, width);
        reads = λ j l. sym (get_or-take end text (at + j) 0 (omega (arith, h.fits, width))) ∙ h.reads j l;
      }

  within_occurs : (end at : ℕ) → end ≤ length text → at + length sought ≤ end → OccursAt text sought at → OccursAt (take end text) sought at
  within_occurs end at within ends h =
      let width = length-take-le end text within in
      record {
        fits = omega (arith, width);
        reads = λ j l. get_or-take end text (at + j) 0 (omega arith) ∙ h.reads j l;
      }

-- ---- what is found
module _ (text sought : List ℕ) (from : ℕ) where
  abbrev ahead : ℕ → Bool
  ahead at = nat_le from at && occurs text sought at

  abbrev back : ℕ → Bool
  back at = nat_le (at + length sought) from && occurs text sought at

  nearest_ahead : (r : Option ℕ) → IsFirst (λ at. ahead at ≡ true) 0 (length text) r
      → MatchOption (option_map (range_at sought) r) (HasNone text from sought Forward) (IsNearest text from sought Forward)
  nearest_ahead None h = λ at is low. h at (omega arith) (inside at is) (and_from _ _ (le-leb from at low) is)
    where
      inside : (at : ℕ) → occurs text sought at ≡ true → at < length text
      inside at is =
          let some = ltb-true 0 (length sought) (and_parts (nat_lt 0 (length sought)) _ is).0 in omega (arith, (occurs_bytes text sought at is).fits)
  nearest_ahead (Some found) h =
      let both = and_parts (nat_le from found) _ h.1 in
      let stands = stands_at-means text found sought (and_parts (nat_lt 0 (length sought)) _ both.1).1 in
      record {
        is_occurrence = both.1;
        is_text = stands.bytes;
        side = leb-true from found both.0;
        nearest = λ at is low near. h.0.before at (omega arith) near (and_from _ _ (le-leb from at low) is);
      }

  nearest_back : (r : Option ℕ) → IsLast (λ at. back at ≡ true) 0 (length text) r
      → MatchOption (option_map (range_at sought) r) (HasNone text from sought Backward) (IsNearest text from sought Backward)
  nearest_back None h = λ at is ends. h at (omega arith) (inside at is) (and_from _ _ (le-leb (at + length sought) from ends) is)
    where
      inside : (at : ℕ) → occurs text sought at ≡ true → at < length text
      inside at is =
          let some = ltb-true 0 (length sought) (and_parts (nat_lt 0 (length sought)) _ is).0 in omega (arith, (occurs_bytes text sought at is).fits)
  nearest_back (Some found) h =
      let both = and_parts (nat_le (found + length sought) from) _ h.1 in
      let stands = stands_at-means text found sought (and_parts (nat_lt 0 (length sought)) _ both.1).1 in
      record {
        is_occurrence = both.1;
        is_text = stands.bytes;
        side = leb-true (found + length sought) from both.0;
        nearest = λ at is ends near.
            let some = ltb-true 0 (length sought) (and_parts (nat_lt 0 (length sought)) _ is).0 in
            h.0.after at (omega arith) (omega (arith, (occurs_bytes text sought at is).fits)) (and_from _ _ (le-leb (at + length sought) from ends) is);
      }

  pub find_text_nearest : (direction : Direction) → MatchOption (find_text text from sought direction) (HasNone text from sought direction) (IsNearest text from sought direction)
  find_text_nearest Forward = nearest_ahead _ (first_among ahead (length text) 0 (length text) (omega arith))
  find_text_nearest Backward = nearest_back _ (last_among back (length text))

  -- it is a range of the text, and there is none for an empty text
  pub found_is_range : (direction : Direction) (r : Option (Range ℕ)) → r ≡ find_text text from sought direction → IfSome r (λ x. (x.start ≤ x.end) × IsCharBoundary text x.start × IsCharBoundary text x.end)
  found_is_range direction r e = subst (λ o. IfSome o (λ x. (x.start ≤ x.end) × IsCharBoundary text x.start × IsCharBoundary text x.end)) (sym e) (by direction (occurrence text from sought direction) (find_text_nearest direction))
    where
      by : (d : Direction) (o : Option ℕ) → MatchOption (option_map (range_at sought) o) (HasNone text from sought d) (IsNearest text from sought d) → IfSome (option_map (range_at sought) o) (λ x. (x.start ≤ x.end) × IsCharBoundary text x.start × IsCharBoundary text x.end)
      by d None h = tt
      by d (Some at) h =
          let stands = stands_at-means text at sought (and_parts (nat_lt 0 (length sought)) _ h.is_occurrence).1 in
          (omega arith, stands.start, stands.end)

  pub none_of_empty : (direction : Direction) → length sought ≡ 0 → None ≡ find_text text from sought direction
  none_of_empty direction e = by (occurrence text from sought direction) (find_text_nearest direction)
    where
      by : (o : Option ℕ) → MatchOption (option_map (range_at sought) o) (HasNone text from sought direction) (IsNearest text from sought direction) → None ≡ option_map (range_at sought) o
      by None h = refl
      by (Some at) h = let some = ltb-true 0 (length sought) (and_parts (nat_lt 0 (length sought)) _ h.is_occurrence).0 in absurd (omega arith)

  -- a search of the bytes finds the same
  module _ (u : IsUtf8 text) (v : IsUtf8 sought) (some : 0 < length sought) (within : from ≤ length text) where
    is_ahead : (at : ℕ) → OccursAt (drop from text) sought at → ahead (from + at) ≡ true
    is_ahead at h = and_from _ _ (le-leb from (from + at) (omega arith)) (bytes_occur text sought (from + at) u v some (occurs_past text sought from at within h))

    ahead_none : (k : ℕ) → ahead k ≡ true → (from ≤ k) × OccursAt (drop from text) sought (k - from)
    ahead_none k is =
        let both = and_parts (nat_le from k) _ is in
        let low = leb-true from k both.0 in
        (low, past_occurs text sought from k low (occurs_bytes text sought k both.1))

    first_at : (r : Option ℕ) → FindsNeedle (drop from text) sought 0 r → occurrence text from sought Forward ≡ option_map (λ at. from + at) r
    first_at r h = first_same (λ at. ahead at ≡ true) 0 (length text) _ _ (first_among ahead (length text) 0 (length text) (omega arith)) (by r h)
      where
        by : (r : Option ℕ) → FindsNeedle (drop from text) sought 0 r → IsFirst (λ at. ahead at ≡ true) 0 (length text) (option_map (λ at. from + at) r)
        by None h = λ k low high is.
            let found = ahead_none k is in h (k - from) (omega arith) (omega (arith, found.0, found.1.fits)) found.1
        by (Some at) h = (
          record {
            low = omega arith;
            high = omega (arith, h.1.fits, length-drop from text);
            before = λ k low high is.
                let found = ahead_none k is in h.0.before (k - from) (omega arith) (omega (arith, found.0)) found.1;
          },
          is_ahead at h.1,
        )

    pub first_of_bytes : (hay needle : List ℕ) (r : Option ℕ) → hay ≡ drop from text → needle ≡ sought → FindsNeedle hay needle 0 r
        → find_text text from sought Forward ≡ option_map (λ at. range_at sought (from + at)) r
    first_of_bytes hay needle r e n h =
        ap (option_map (range_at sought)) (first_at r (subst (λ l. FindsNeedle l sought 0 r) e (subst (λ l. FindsNeedle hay l 0 r) n h))) ∙ mapped r
      where
        mapped : (r : Option ℕ) → option_map (range_at sought) (option_map (λ at. from + at) r) ≡ option_map (λ at. range_at sought (from + at)) r
        mapped None = refl
        mapped (Some at) = refl

    back_none : (k : ℕ) → back k ≡ true → OccursAt (take from text) sought k
    back_none k is =
        let both = and_parts (nat_le (k + length sought) from) _ is in
        within_occurs text sought from k within (leb-true (k + length sought) from both.0) (occurs_bytes text sought k both.1)

    is_back : (at : ℕ) → OccursAt (take from text) sought at → back at ≡ true
    is_back at h =
        and_from _ _ (le-leb (at + length sought) from (omega (arith, h.fits, length-take-le from text within)))
        (bytes_occur text sought at u v some (occurs_within text sought from at within h))

    last_at : (r : Option ℕ) → FindsLastNeedle (take from text) sought r → occurrence text from sought Backward ≡ r
    last_at r h = last_same (λ at. back at ≡ true) 0 (length text) _ _ (last_among back (length text)) (by r h)
      where
        by : (r : Option ℕ) → FindsLastNeedle (take from text) sought r → IsLast (λ at. back at ≡ true) 0 (length text) r
        by None h = λ k low high is. let found = back_none k is in h k low (omega (arith, found.fits)) found
        by (Some at) h = (
          record {
            low = omega arith;
            high = omega (arith, h.1.fits, length-take-le from text within);
            after = λ k low high is. let found = back_none k is in h.0.after k low (omega (arith, found.fits)) found;
          },
          is_back at h.1,
        )

    pub last_of_bytes : (hay needle : List ℕ) (r : Option ℕ) → hay ≡ slice_range text 0 from → needle ≡ sought → FindsLastNeedle hay needle r
        → find_text text from sought Backward ≡ option_map (range_at sought) r
    last_of_bytes hay needle r e n h =
        ap (option_map (range_at sought)) (last_at r (subst (λ l. FindsLastNeedle l sought r) (e ∙ ap (λ k. take k text) {x = from - 0} {y = from} (omega arith)) (subst (λ l. FindsLastNeedle hay l r) n h)))

-- ---- a search of bytes by parts
pub rest_is : (hay : List ℕ) (start : ℕ) → slice_range hay start (length hay) ≡ drop start hay
rest_is hay start = take_all (length hay - start) (drop start hay) (omega (arith, length-drop start hay))

module _ (hay needle : List ℕ) where
  pub occurs_here : (at : ℕ) (rest : List ℕ) → rest ≡ drop at hay → at ≤ length hay → OccursAt rest needle 0 → OccursAt hay needle at
  occurs_here at rest e within h = let same : at + 0 ≡ at = omega arith in subst (OccursAt hay needle) same (occurs_past hay needle at 0 within (subst (λ l. OccursAt l needle 0) e h))

  pub here_occurs : (at : ℕ) (rest : List ℕ) → rest ≡ drop at hay → OccursAt hay needle at → OccursAt rest needle 0
  here_occurs at rest e h =
      let same : at - at ≡ 0 = omega arith in
      subst (λ l. OccursAt l needle 0) (sym e) (subst (OccursAt (drop at hay) needle) same (past_occurs hay needle at at (omega arith) h))

  -- what follows `start` was searched
  pub finds_after : (start : ℕ) (rest : List ℕ) (r : Option ℕ) → rest ≡ drop start hay → start ≤ length hay → FindsNeedle rest needle 0 r → FindsNeedle hay needle start (option_map (λ at. start + at) r)
  finds_after start rest r e within h = by r (subst (λ l. FindsNeedle l needle 0 r) e h)
    where
      by : (r : Option ℕ) → FindsNeedle (drop start hay) needle 0 r → FindsNeedle hay needle start (option_map (λ at. start + at) r)
      by None h = λ k low high o.
          let there = past_occurs hay needle start k low o in h (k - start) (omega arith) (omega (arith, there.fits)) there
      by (Some at) h = (
        record {
          low = omega arith;
          high = omega (arith, h.1.fits, length-drop start hay);
          before = λ k low high o. h.0.before (k - start) (omega arith) (omega arith) (past_occurs hay needle start k low o);
        },
        occurs_past hay needle start at within h.1,
      )

  -- nothing was found before it
  pub finds_from_front : (start : ℕ) (r : Option ℕ) → Nowhere (OccursAt hay needle) 0 start → FindsNeedle hay needle start r → FindsNeedle hay needle 0 r
  finds_from_front start None front h = Nowhere-then front h
  finds_from_front start (Some at) front h = (record { low = omega arith; high = h.0.high; before = Nowhere-then front h.0.before }, h.1)

  -- by one byte of the needle
  pub next_place : (index start b : ℕ) (rest : List ℕ) (r : Option ℕ) → rest ≡ drop (start + index) hay → b ≡ get_or needle index 0 → index < length needle → start + index < length hay
      → IsFirstByte (is_byte b) rest r
      → MatchOption (option_map (λ at. start + at) r) (Nowhere (OccursAt hay needle) start (length hay + 1)) (λ at. (start ≤ at) × (at < length hay) × Nowhere (OccursAt hay needle) start at)
  next_place index start b rest r e byte inside within h = by r (subst (λ l. IsFirstByte (is_byte b) l r) e h)
    where
      passes : (k : ℕ) → start ≤ k → OccursAt hay needle k → Passes (is_byte b) (drop (start + index) hay) (k - start)
      passes k low o =
          let same : start + index + (k - start) ≡ k + index = omega arith in
          eq-eqb _ _ (get_or-drop (start + index) hay (k - start) 0 ∙ ap (λ n. get_or hay n 0) same ∙ o.reads index inside ∙ sym byte)

      by : (r : Option ℕ) → IsFirstByte (is_byte b) (drop (start + index) hay) r
          → MatchOption (option_map (λ at. start + at) r) (Nowhere (OccursAt hay needle) start (length hay + 1)) (λ at. (start ≤ at) × (at < length hay) × Nowhere (OccursAt hay needle) start at)
      by None h = λ k low high o. h (k - start) (omega arith) (omega (arith, o.fits, length-drop (start + index) hay)) (passes k low o)
      by (Some at) h = (omega arith, omega (arith, h.0.high, length-drop (start + index) hay), λ k low high o. h.0.before (k - start) (omega arith) (omega arith) (passes k low o))

  -- where the needle may stand next, if anywhere
  module _ (start : ℕ) (next : Option ℕ) (front : Nowhere (OccursAt hay needle) 0 start)
      (is_next : MatchOption next (Nowhere (OccursAt hay needle) start (length hay + 1)) (λ at. (start ≤ at) × (at < length hay) × Nowhere (OccursAt hay needle) start at)) where
    pub nowhere_next : (r : Option ℕ) → next ≡ None → r ≡ None → FindsNeedle hay needle 0 r
    nowhere_next r none same =
        subst (FindsNeedle hay needle 0) (sym same)
        (Nowhere-then front (subst (λ o. MatchOption o (Nowhere (OccursAt hay needle) start (length hay + 1)) (λ at. (start ≤ at) × (at < length hay) × Nowhere (OccursAt hay needle) start at)) none is_next))

    pub next_at : (at : ℕ) → next ≡ Some at → NoneBefore (OccursAt hay needle) 0 (length hay) at × (start ≤ at)
    next_at at some =
        let here = subst (λ o. MatchOption o (Nowhere (OccursAt hay needle) start (length hay + 1)) (λ at. (start ≤ at) × (at < length hay) × Nowhere (OccursAt hay needle) start at)) some is_next in
        (record { low = omega arith; high = here.1; before = Nowhere-then front here.2 }, here.0)
