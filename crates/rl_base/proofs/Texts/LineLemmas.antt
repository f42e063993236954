-- The line that a place lies in, where a line begins and ends, and what stands after a place.
use Rattle.rl_base.proofs.Common.{take-add, Some, None, slice_get, slice_range, ◌≡◌, ℕ, zero, suc, ◌+◌, ◌-◌, ◌<◌, ◌≤◌, Bool, true, false, cond, List, [], ◌∷◌, ◌++◌, length, get_or, take, drop, count_by, refl, sym, ap, ap₂, subst, ◌∙◌, arith, eqb, length-append, drop-drop, take_at, get_or_at, length-take-le, take-append-drop, drop_at, take_all, slice_split-cons_yes, slice_split-cons_no, length-slice_split, sum_by-cons, sum_by-append, same_Some, get_or_from_slice_get, slice_get_within, concat, onto_first, IsCharBoundary, IsUtf8, bytes_in, placed_clusters, is_newline, lines, bytes_of, start_of_line, text_of_line, end_of_line, last_line, line_number, length_push, nil_from_length, drop_more, append_assoc, take_more}
use Rattle.unicode_segmentation.specs.Segments.{with_offsets}
use Rattle.rl_base.proofs.Clusters.WordLemmas.{All-places}

-- ---- a text cut at a newline
pub lines_some : (text : List ℕ) → (line : List ℕ) × (more : List (List ℕ)) × (lines text ≡ line ∷ more)
lines_some text = from (lines text) refl (length-slice_split is_newline text)
  where
    from : (ls : List (List ℕ)) → lines text ≡ ls → length ls ≡ last_line text + 1 → (line : List ℕ) × (more : List (List ℕ)) × (lines text ≡ line ∷ more)
    from [] e n = absurd (omega arith)
    from (line ∷ more) e n = (line, more, e)

bytes_of-append : (ls more : List (List ℕ)) → bytes_of (ls ++ more) ≡ bytes_of ls + bytes_of more
bytes_of-append [] more = omega arith
bytes_of-append (line ∷ ls) more = omega (arith, bytes_of-append ls more)

bytes_of-onto : (is : Bool) (b : ℕ) (line : List ℕ) (more : List (List ℕ)) → bytes_of (cond is ([] ∷ (line ∷ more)) (onto_first b (line ∷ more))) ≡ 1 + bytes_of (line ∷ more)
bytes_of-onto true b line more = omega arith
bytes_of-onto false b line more = omega arith

-- the lines have the bytes of the text and one more newline
bytes_of-lines : (text : List ℕ) → bytes_of (lines text) ≡ length text + 1
bytes_of-lines [] = refl
bytes_of-lines (b ∷ bs) =
    let some = lines_some bs in
    ap (λ l. bytes_of (cond (eqb b 10) ([] ∷ l) (onto_first b l))) some.2 ∙ bytes_of-onto (eqb b 10) b some.0 some.1
    ∙ (omega (arith, bytes_of-lines bs, ap bytes_of some.2))

-- ---- the line that two parts of a text share: it begins with the last of the one, and ends with the first of the other
record Meets (front back first : List ℕ) (more : List (List ℕ)) : Type 0 where
  before : List (List ℕ)
  last : List ℕ
  front_is : lines front ≡ before ++ last ∷ []
  both_is : lines (front ++ back) ≡ before ++ (last ++ first) ∷ more

meets : (front back first : List ℕ) (more : List (List ℕ)) → lines back ≡ first ∷ more → Meets front back first more
meets [] back first more e = record { before = []; last = []; front_is = refl; both_is = e }
meets (b ∷ bs) back first more e = let m = meets bs back first more e in from (eqb b 10) refl m.before m.last m.front_is m.both_is
  where
    from : (is : Bool) → eqb b 10 ≡ is → (before : List (List ℕ)) (last : List ℕ) → lines bs ≡ before ++ last ∷ []
        → lines (bs ++ back) ≡ before ++ (last ++ first) ∷ more
        → Meets (b ∷ bs) back first more
    from true is before last f g = record {
      before = [] ∷ before;
      last = last;
      front_is = slice_split-cons_yes is_newline b bs is ∙ ap (λ l. [] ∷ l) f;
      both_is = slice_split-cons_yes is_newline b (bs ++ back) is ∙ ap (λ l. [] ∷ l) g;
    }
    from false is [] last f g = record {
      before = [];
      last = b ∷ last;
      front_is = slice_split-cons_no is_newline b bs is ∙ ap (onto_first b) f;
      both_is = slice_split-cons_no is_newline b (bs ++ back) is ∙ ap (onto_first b) g;
    }
    from false is (line ∷ before) last f g = record {
      before = (b ∷ line) ∷ before;
      last = last;
      front_is = slice_split-cons_no is_newline b bs is ∙ ap (onto_first b) f;
      both_is = slice_split-cons_no is_newline b (bs ++ back) is ∙ ap (onto_first b) g;
    }

-- the line that a place lies in
module _ (text : List ℕ) (pos : ℕ) (first : List ℕ) (more : List (List ℕ)) (e : lines (drop pos text) ≡ first ∷ more) where
  meet : Meets (take pos text) (drop pos text) first more
  meet = meets (take pos text) (drop pos text) first more e

  lines-is : lines text ≡ meet.before ++ (meet.last ++ first) ∷ more
  lines-is = ap lines (sym (take-append-drop pos text)) ∙ meet.both_is

  line_number-is : line_number text pos ≡ length meet.before
  line_number-is = omega (arith, length-slice_split is_newline (take pos text), ap length meet.front_is, length_push meet.before meet.last)

  start-is : pos ≤ length text → start_of_line text (line_number text pos) + length meet.last ≡ pos
  start-is within =
      let start = ap₂ (λ k l. bytes_of (take k l)) line_number-is lines-is
      ∙ ap bytes_of (take_at meet.before ((meet.last ++ first) ∷ more) (length meet.before) refl) in
      let all = ap bytes_of meet.front_is ∙ bytes_of-append meet.before (meet.last ∷ []) in
      omega (arith, start, bytes_of-lines (take pos text), all, length-take-le pos text within)

-- it ends with the first line of what stands after the place
pub end-from : (text : List ℕ) (pos : ℕ) (line : List ℕ) (more : List (List ℕ)) → pos ≤ length text → lines (drop pos text) ≡ line ∷ more
    → end_of_line text (line_number text pos) ≡ pos + length line
end-from text pos line more within e =
    let here = meet text pos line more e in
    let whole = ap₂ (λ k l. get_or l k []) (line_number-is text pos line more e) (lines-is text pos line more e)
    ∙ get_or_at here.before (here.last ++ line) more [] (length here.before) refl in
    omega (arith, start-is text pos line more e within, ap length whole, length-append here.last line)

-- its line begins there or before
pub start-before : (text : List ℕ) (pos : ℕ) → pos ≤ length text → start_of_line text (line_number text pos) ≤ pos
start-before text pos within = let some = lines_some (drop pos text) in omega (arith, start-is text pos some.0 some.1 some.2 within)

pub end-after : (text : List ℕ) (pos : ℕ) → pos ≤ length text → pos ≤ end_of_line text (line_number text pos)
end-after text pos within = let some = lines_some (drop pos text) in omega (arith, end-from text pos some.0 some.1 within some.2)

-- the lines after that of a place are those of what stands after the place, but for its first
pub lines-after : (text : List ℕ) (pos : ℕ) → drop (line_number text pos + 1) (lines text) ≡ drop 1 (lines (drop pos text))
lines-after text pos =
    let some = lines_some (drop pos text) in
    let here = meet text pos some.0 some.1 some.2 in
    ap₂ (λ j ls. drop (j + 1) ls) (line_number-is text pos some.0 some.1 some.2) (lines-is text pos some.0 some.1 some.2)
    ∙ sym (drop-drop 1 (length here.before) _) ∙ ap (drop 1) (drop_at here.before ((here.last ++ some.0) ∷ some.1) (length here.before) refl)
    ∙ sym (ap (drop 1) some.2)

-- ---- a line stands in its text, after the lines before it
record Stands (text : List ℕ) (before : List (List ℕ)) (line : List ℕ) : Type 0 where
  front : List ℕ
  back : List ℕ
  is : text ≡ front ++ (line ++ back)
  place : length front ≡ bytes_of before
  number : count_by is_newline front ≡ length before
  none : count_by is_newline line ≡ 0

count-next : (is : Bool) (b : ℕ) (bs : List ℕ) → eqb b 10 ≡ is → count_by is_newline (b ∷ bs) ≡ cond is 1 0 + count_by is_newline bs
count-next is b bs e = sum_by-cons (λ c. cond (eqb c 10) 1 0) b bs ∙ ap (λ (v : Bool). cond v 1 0 + count_by is_newline bs) e

-- with one byte more before it
stands-after : (is : Bool) (b : ℕ) (bs : List ℕ) (before now : List (List ℕ)) (line : List ℕ) → eqb b 10 ≡ is → bytes_of now ≡ 1 + bytes_of before
    → length now ≡ cond is 1 0 + length before → Stands bs before line → Stands (b ∷ bs) now line
stands-after is b bs before now line e bytes count s = record {
  front = b ∷ s.front;
  back = s.back;
  is = ap (λ t. b ∷ t) s.is;
  place = omega (arith, s.place, bytes);
  number = count-next is b s.front e ∙ ap (λ n. cond is 1 0 + n) s.number ∙ sym count;
  none = s.none;
}

stands : (text : List ℕ) (before : List (List ℕ)) (line : List ℕ) (more : List (List ℕ)) → lines text ≡ before ++ line ∷ more → Stands text before line
stands [] [] line more e = let none : line ≡ [] = cc in record { front = []; back = []; is = rw none refl; place = refl; number = refl; none = rw none refl }
stands [] (l ∷ []) line more e = absurd cc
stands [] (l ∷ (k ∷ before)) line more e = absurd cc
stands (b ∷ bs) before line more e = let some = lines_some bs in
    from (eqb b 10) refl some.0 some.1 some.2 before (sym (ap (λ l. cond (eqb b 10) ([] ∷ l) (onto_first b l)) some.2) ∙ e) (stands bs)
  where
    from : (is : Bool) → eqb b 10 ≡ is → (x : List ℕ) (xs : List (List ℕ)) → lines bs ≡ x ∷ xs → (before : List (List ℕ))
        → cond is ([] ∷ (x ∷ xs)) ((b ∷ x) ∷ xs) ≡ before ++ line ∷ more
        → ((before : List (List ℕ)) (line : List ℕ) (more : List (List ℕ)) → lines bs ≡ before ++ line ∷ more → Stands bs before line)
        → Stands (b ∷ bs) before line
    from true is x xs f [] e rest = let none : line ≡ [] = cc in
        record { front = []; back = b ∷ bs; is = rw none refl; place = refl; number = refl; none = rw none refl }
    from true is x xs f (l ∷ before) e rest =
        let one : [] ≡ l = cc in
        let two : x ∷ xs ≡ before ++ line ∷ more = cc in
        stands-after true b bs before (l ∷ before) line is (omega (arith, ap length one)) (omega arith) (rest before line more (f ∙ two))
    from false is x xs f [] e rest =
        let one : b ∷ x ≡ line = cc in
        let s = rest [] x xs f in
        record {
          front = [];
          back = s.back;
          is = ap (λ t. b ∷ t) (s.is ∙ ap (λ t. t ++ (x ++ s.back)) (nil_from_length s.front s.place)) ∙ ap (λ t. t ++ s.back) one;
          place = refl;
          number = refl;
          none = omega (arith, ap (count_by is_newline) one, count-next false b x is, s.none);
        }
    from false is x xs f (l ∷ before) e rest =
        let one : b ∷ x ≡ l = cc in
        let two : xs ≡ before ++ line ∷ more = cc in
        stands-after false b bs (x ∷ before) (l ∷ before) line is (omega (arith, ap length one)) (omega arith) (rest (x ∷ before) line more (f ∙ ap (λ t. x ∷ t) two))

-- line j of a text
stands_at : (text : List ℕ) (j : ℕ) → j < length (lines text) → Stands text (take j (lines text)) (text_of_line text j)
stands_at text j l =
    stands text _ _ (drop (j + 1) (lines text))
    (sym (take-append-drop j (lines text)) ∙ ap (λ r. take j (lines text) ++ r) (drop_more (lines text) j [] l))

-- no newline stands in it
pub newlines-line : (text : List ℕ) (k : ℕ) → k < length (lines text) → last_line (text_of_line text k) ≡ 0
newlines-line text k l = (stands_at text k l).none

-- it lies from `start` to `stop`
pub record Lies (text : List ℕ) (j start stop : ℕ) (line : List ℕ) : Type 0 where
  pub len : start + length line ≡ stop
  pub number_start : count_by is_newline (take start text) ≡ j
  pub number_stop : count_by is_newline (take stop text) ≡ j
  pub is : take (length line) (drop start text) ≡ line
  pub within : stop ≤ length text

pub lies : (text : List ℕ) (j : ℕ) → j < length (lines text) → Lies text j (start_of_line text j) (end_of_line text j) (text_of_line text j)
lies text j l =
    let s = stands_at text j l in
    let line = text_of_line text j in
    let number : length (take j (lines text)) ≡ j = length-take-le j (lines text) (omega arith) in
    let whole : text ≡ (s.front ++ line) ++ s.back = s.is ∙ sym (append_assoc s.front line s.back) in
    let stop : length (s.front ++ line) ≡ end_of_line text j = length-append s.front line ∙ ap (λ n. n + length line) s.place in
    record {
      len = refl;
      number_start = ap (λ t. count_by is_newline (take (start_of_line text j) t)) s.is
          ∙ ap (count_by is_newline) (take_at s.front (line ++ s.back) _ s.place) ∙ s.number ∙ number;
      number_stop = ap (λ t. count_by is_newline (take (end_of_line text j) t)) whole ∙ ap (count_by is_newline) (take_at (s.front ++ line) s.back _ stop)
          ∙ sum_by-append (λ c. cond (eqb c 10) 1 0) s.front line ∙ (omega (arith, s.number, number, s.none));
      is = ap (λ t. take (length line) (drop (start_of_line text j) t)) s.is
          ∙ ap (take (length line)) (drop_at s.front (line ++ s.back) _ s.place) ∙ take_at line s.back (length line) refl;
      within = omega (arith, ap length whole, length-append (s.front ++ line) s.back, stop);
    }

-- ---- from line to line
pub count_of_lines : (text : List ℕ) → length (lines text) ≡ last_line text + 1
count_of_lines text = length-slice_split is_newline text

pub count-parts : (text : List ℕ) (pos : ℕ) → line_number text pos + count_by is_newline (drop pos text) ≡ last_line text
count-parts text pos =
    sym (sum_by-append (λ c. cond (eqb c 10) 1 0) (take pos text) (drop pos text)) ∙ ap (count_by is_newline) (take-append-drop pos text)

pub start-next : (text : List ℕ) (j : ℕ) → j < length (lines text) → start_of_line text (j + 1) ≡ end_of_line text j + 1
start-next text j l = ap bytes_of (take_more (lines text) j [] l) ∙ bytes_of-append (take j (lines text)) (text_of_line text j ∷ []) ∙ (omega arith)

pub end-last : (text : List ℕ) → end_of_line text (last_line text) ≡ length text
end-last text =
    let all = ap bytes_of (take_all (last_line text + 1) (lines text) (omega (arith, count_of_lines text))) ∙ bytes_of-lines text in
    omega (arith, all, start-next text (last_line text) (omega (arith, count_of_lines text)))

-- `&text[start..stop]` at the places of a line
pub text-between : (text : List ℕ) (j start stop : ℕ) → j < length (lines text) → start ≡ start_of_line text j → stop ≡ end_of_line text j → slice_range text start stop ≡ text_of_line text j
text-between text j start stop l e f =
    let h = lies text j l in
    let len : stop - start ≡ length (text_of_line text j) = omega (arith, h.len) in
    ap₂ (λ n m. take n (drop m text)) len e ∙ h.is

-- ---- the lines stand in the order of their numbers
pub start-mono : (text : List ℕ) (j k : ℕ) → j ≤ k → start_of_line text j ≤ start_of_line text k
start-mono text j k le =
    let split : take k (lines text) ≡ take j (lines text) ++ take (k - j) (drop j (lines text)) = ap (λ n. take n (lines text)) (omega arith) ∙ take-add j (k - j) (lines text) in
    omega (arith, ap bytes_of split, bytes_of-append (take j (lines text)) (take (k - j) (drop j (lines text))))

-- ---- the place of a column
pub place-of_nth : (from : ℕ) (pieces : List (List ℕ)) (n : ℕ) (x : ℕ × List ℕ) → slice_get (with_offsets from pieces) n ≡ Some x → x.0 ≡ from + bytes_in (take n pieces)
unfolding with_offsets
place-of_nth from [] n x e = absurd (cc e)
place-of_nth from (p ∷ pieces) zero x e = let first : (from, p) ≡ x = same_Some _ _ e in sym (ap (λ y. y.0) first) ∙ (omega arith)
place-of_nth from (p ∷ pieces) (suc n) x e = place-of_nth (from + length p) pieces n x e ∙ (omega (arith, length-append p (concat (take n pieces))))

pub few-from_none : (from : ℕ) (pieces : List (List ℕ)) (n : ℕ) → slice_get (with_offsets from pieces) n ≡ None → length pieces ≤ n
unfolding with_offsets
few-from_none from [] n e = omega arith
few-from_none from (p ∷ pieces) zero e = absurd (cc e)
few-from_none from (p ∷ pieces) (suc n) e = let more = few-from_none (from + length p) pieces n e in omega (arith, more)

-- a text may be cut at the place of its n-th cluster
pub IsCharBoundary-nth : (text : List ℕ) (n : ℕ) (x : ℕ × List ℕ) → IsUtf8 text → slice_get (placed_clusters text) n ≡ Some x → IsCharBoundary text x.0
IsCharBoundary-nth text n x u e =
    let P : ℕ × List ℕ → Type 0 = λ y. IsCharBoundary text y.0 in
    subst P (get_or_from_slice_get (placed_clusters text) n x x e) (All-places text u n x (slice_get_within (placed_clusters text) n x e))
