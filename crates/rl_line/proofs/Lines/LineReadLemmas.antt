-- What the table of line starts says of the lines of its text.
use Rattle.rl_line.proofs.Common.{All-get_or, Bool, IsCharBoundary, IsCharBoundary-after_ascii, IsCharBoundary-before_ascii, IsPartitionPoint, IsPartitionedBy, IsTable, IsUtf8, List, None, Range, Some, [], after_newlines, ap, arith, between, both_ways, cases_lt, cond, count_by, drop, end_of_line, eqb, false, from_end, get_or, get_or-append_right, get_or-between, get_or-take, get_or_append_left, get_or_default, is_newline, last_line, le-leb, le-ltb, le_refl, leb, length, length-append, length-between, length-take-le, line_number, line_starts, lines, lt-leb, lt-ltb, ltb, min, ne_eqb, onto_first, option_map, range_of_line, refl, slice_get-get_or, slice_get_past, slice_range, start_of_line, subst, suc, sym, take, true, zero, ℕ, ⊎_elim, ◌+◌, ◌-◌, ◌<◌, ◌∙◌, ◌∷◌, ◌≡◌, ◌≤◌}
use Rattle.rl_base.proofs.Texts.LineLemmas.{count-parts, count_of_lines, end-after, end-last, lines_some, start-before, start-mono, start-next, text-between}
use Rattle.rl_base.specs.Lines.{bytes_of}
use Rattle.rl_line.proofs.Lines.LineStartLemmas.{IsAfterNewline, after_newlines-cons, all_after_newlines, length-line_starts, length-table, newlines-take, parts, read-before, read-from, read-within}

-- ---- the places where lines begin: the table, with the start of the text before it
-- where lines begin, the first of which begins at `from`
abbrev places : ℕ → List (List ℕ) → List ℕ
places from [] = []
places from (line ∷ more) = from ∷ places (from + length line + 1) more

places-lines : (from : ℕ) (text : List ℕ) → places from (lines text) ≡ from ∷ after_newlines (from + 1) text
places-lines from [] = refl
places-lines from (b ∷ bs) =
    let some = lines_some bs in
    one (places-lines (from + 1) bs) (is_newline b) some.0 some.1 some.2 ∙ ap (λ l. from ∷ l) (sym (after_newlines-cons (from + 1) b bs))
  where
    one : places (from + 1) (lines bs) ≡ (from + 1) ∷ after_newlines (from + 1 + 1) bs → (is : Bool) (line : List ℕ) (more : List (List ℕ)) → lines bs ≡ line ∷ more
        → places from (cond is ([] ∷ lines bs) (onto_first b (lines bs))) ≡ from ∷ cond is ((from + 1) ∷ after_newlines (from + 1 + 1) bs) (after_newlines (from + 1 + 1) bs)
    one later true line more e =
        let same : from + 0 + 1 ≡ from + 1 = omega arith in
        ap (λ l. from ∷ l) (ap (λ n. places n (lines bs)) same ∙ later)
    one later false line more e =
        let same : from + suc (length line) + 1 ≡ from + 1 + length line + 1 = omega arith in
        ap (λ l. places from (onto_first b l)) e ∙ ap (λ n. from ∷ places n more) same
        ∙ ap (λ l. from ∷ drop 1 l) (ap (places (from + 1)) (sym e) ∙ later)

get_or-places : (from : ℕ) (ls : List (List ℕ)) (k : ℕ) → k < length ls → get_or (places from ls) k 0 ≡ from + bytes_of (take k ls)
get_or-places from [] k h = absurd (omega arith)
get_or-places from (line ∷ more) zero h = omega arith
get_or-places from (line ∷ more) (suc k) h = get_or-places (from + length line + 1) more k (omega arith) ∙ (omega arith)

start-from_table : (text : List ℕ) (k : ℕ) → k < length (lines text) → get_or (0 ∷ line_starts text) k 0 ≡ start_of_line text k
start-from_table text k h = ap (λ l. get_or l k 0) (sym (places-lines 0 text)) ∙ get_or-places 0 (lines text) k h ∙ (omega arith)

-- ---- the place in the table with the number of a line: its newline ends there
pub record EndsAt (text : List ℕ) (k next : ℕ) : Type 0 where
  pub start : next ≡ start_of_line text (k + 1)
  pub stop : next ≡ end_of_line text k + 1
  pub within : next ≤ length text
  pub newline : get_or text (next - 1) 0 ≡ 10

pub ends_at : (text : List ℕ) (k next : ℕ) → k < last_line text → next ≡ get_or (line_starts text) k 0 → EndsAt text k next
ends_at text k next small is =
    let some : k < length (line_starts text) = omega (arith, length-line_starts text) in
    let one : suc k ≡ k + 1 = omega arith in
    let start : next ≡ start_of_line text (k + 1) = is ∙ start-from_table text (suc k) (omega (arith, count_of_lines text)) ∙ ap (start_of_line text) one in
    let here : IsAfterNewline 1 text next = subst (IsAfterNewline 1 text) (sym is) (All-get_or (IsAfterNewline 1 text) (line_starts text) k 0 some (all_after_newlines 1 text)) in
    record {
      start = start;
      stop = start ∙ start-next text k (omega (arith, count_of_lines text));
      within = omega (arith, here.within);
      newline = here.newline;
    }

-- only the last line ends at none
pub last-ends : (text : List ℕ) (k : ℕ) → k ≡ last_line text → end_of_line text k ≡ length text
last-ends text k last = ap (end_of_line text) last ∙ end-last text

module _ (text : List ℕ) (k next : ℕ) (h : EndsAt text k next) where
  pub EndsAt-stop : IsCharBoundary text (next - 1)
  EndsAt-stop = IsCharBoundary-before_ascii text (next - 1) (omega (arith, h.stop, h.within)) (omega (arith, h.newline))

  pub EndsAt-start : IsUtf8 text → IsCharBoundary text next
  EndsAt-start u = grind (arith, IsCharBoundary-after_ascii)

  pub EndsAt-after : next ≡ min (end_of_line text k + 1) (length text)
  EndsAt-after = omega (arith, h.stop, h.within)

-- ---- the line that a place lies in: where the starts pass the place
module _ (text : List ℕ) (pos : ℕ) (within : pos ≤ length text) where
  abbrev front : List ℕ
  front = line_starts (take pos text)

  abbrev back : List ℕ
  back = after_newlines (pos + 1) (drop pos text)

  count : length front ≡ line_number text pos
  count = length-line_starts (take pos text)

  total : length (line_starts text) ≡ length front + length back
  total = ap length (parts text pos within) ∙ length-append front back

  pub started : (k : ℕ) → k < line_number text pos → get_or (line_starts text) k 0 ≤ pos
  started k less =
      let early : k < length front = omega (arith, count) in
      let at : get_or (line_starts text) k 0 ≡ get_or front k 0 = ap (λ t. get_or t k 0) (parts text pos within) ∙ get_or_append_left front back 0 k early in
      omega (arith, at, length-take-le pos text within, (All-get_or (IsAfterNewline 1 (take pos text)) front k 0 early (all_after_newlines 1 (take pos text))).within)

  pub not_started : (k : ℕ) → line_number text pos ≤ k → k < length (line_starts text) → pos < get_or (line_starts text) k 0
  not_started k past some =
      let late : length front ≤ k = omega (arith, count) in
      let at : get_or (line_starts text) k 0 ≡ get_or back (k - length front) 0 = ap (λ t. get_or t k 0) (parts text pos within) ∙ get_or-append_right front back (length front) k 0 refl late in
      omega (arith, at, (All-get_or (IsAfterNewline (pos + 1) (drop pos text)) back (k - length front) 0 (omega (arith, total, late)) (all_after_newlines (pos + 1) (drop pos text))).from)

  -- a start is at the place or before it where its number is less than that of the place's line
  pub leb-started : (k : ℕ) → k < length (line_starts text) → leb (get_or (line_starts text) k 0) pos ≡ leb (k + 1) (line_number text pos)
  leb-started k some =
      ⊎_elim (λ less. le-leb _ pos (started k less) ∙ sym (le-leb (k + 1) _ (omega (arith, less))))
      (λ past. lt-leb _ pos (not_started k past some) ∙ sym (lt-leb (k + 1) _ (omega (arith, past)))) (cases_lt k (line_number text pos))

  pub ltb-not_started : (k : ℕ) → k < length (line_starts text) → ltb pos (get_or (line_starts text) k 0) ≡ leb (line_number text pos) k
  ltb-not_started k some =
      ⊎_elim (λ less. le-ltb pos _ (started k less) ∙ sym (lt-leb _ k less)) (λ past. lt-ltb pos _ (not_started k past some) ∙ sym (le-leb _ k past)) (cases_lt k (line_number text pos))

-- ---- a list whose elements pass a test up to number m
module _ (test : ℕ → Bool) (xs : List ℕ) (m : ℕ) (some : m ≤ length xs) (low : (i : ℕ) → i < m → test (get_or xs i 0) ≡ true)
    (high : (i : ℕ) → m ≤ i → i < length xs → test (get_or xs i 0) ≡ false) where
  pub IsPartitionedBy-at : IsPartitionedBy test xs
  IsPartitionedBy-at i j d le l passes =
      let at : (k : ℕ) → k < length xs → test (get_or xs k d) ≡ test (get_or xs k 0) = λ k less. ap test (get_or_default xs k d 0 less) in
      ⊎_elim (λ less. at i (omega arith) ∙ low i (omega arith)) (λ past. absurd (both_ways _ (high j past l) (sym (at j l) ∙ passes))) (cases_lt j m)

  pub partition_point-is : (k : ℕ) → k ≤ length xs → IsPartitionPoint (λ s. test s ≡ true) (λ s. test s ≡ false) xs k → k ≡ m
  partition_point-is k small at = grind arith

-- ---- the two parts of a table, in which the line of a place is looked up
module _ (places text : List ℕ) (border pos : ℕ) (h : IsTable places border text) (within : pos ≤ length text) where
  many : length (line_starts text) ≡ length places
  many = length-line_starts text ∙ sym (length-table places border text h)

  -- before the border
  module _ (early : line_number text pos < border) where
    abbrev start : List ℕ
    start = take border places

    start-size : length start ≡ border
    start-size = length-take-le border places h.within

    read : (i : ℕ) → i < border → get_or start i 0 ≡ get_or (line_starts text) i 0
    read i less = get_or-take border places i 0 less ∙ read-before places text border i h (omega (arith, h.within)) less

    low : (i : ℕ) → i < line_number text pos → leb (get_or start i 0) pos ≡ true
    low i less = le-leb _ pos (omega (arith, read i (omega arith), started text pos within i less))

    high : (i : ℕ) → line_number text pos ≤ i → i < length start → leb (get_or start i 0) pos ≡ false
    high i past some =
        let less : i < border = omega (arith, start-size) in
        lt-leb _ pos (omega (arith, read i less, not_started text pos within i past (omega (arith, many, h.within))))

    pub IsPartitionedBy-before : IsPartitionedBy (λ s. leb s pos) (take border places)
    IsPartitionedBy-before = IsPartitionedBy-at (λ s. leb s pos) start (line_number text pos) (omega (arith, start-size)) low high

    pub number-before : (k : ℕ) → k ≤ length (take border places) → IsPartitionPoint (λ s. leb s pos ≡ true) (λ s. leb s pos ≡ false) (take border places) k → k ≡ line_number text pos
    number-before = partition_point-is (λ s. leb s pos) start (line_number text pos) (omega (arith, start-size)) low high

  -- from it on
  module _ (late : border ≤ line_number text pos) where
    abbrev rest : List ℕ
    rest = slice_range places border (length places)

    rest-size : length rest ≡ length places - border
    rest-size = length-between places border (length places) (le_refl (length places))

    abbrev left : ℕ
    left = length text - pos

    abbrev here : ℕ
    here = line_number text pos - border

    fits : line_number text pos ≤ length places
    fits = omega (arith, many, length-line_starts text, newlines-take text pos)

    read_rest : (i : ℕ) → i < length rest → get_or rest i 0 ≡ from_end (length text) (get_or (line_starts text) (border + i) 0)
    read_rest i some = grind (arith, get_or-between, rest-size, read-from)

    low_rest : (i : ℕ) → i < here → leb left (get_or rest i 0) ≡ true
    low_rest i less = le-leb left _ (omega (arith, read_rest i (omega (arith, rest-size, fits)), started text pos within (border + i) (omega arith)))

    high_rest : (i : ℕ) → here ≤ i → i < length rest → leb left (get_or rest i 0) ≡ false
    high_rest i past some =
        let inside : border + i < length places = omega (arith, rest-size) in
        lt-leb left _ (omega (arith, read_rest i some, not_started text pos within (border + i) (omega arith) (omega (arith, many)), read-within places text border (border + i) h inside))

    pub IsPartitionedBy-from : IsPartitionedBy (λ s. leb (length text - pos) s) (slice_range places border (length places))
    IsPartitionedBy-from = IsPartitionedBy-at (λ s. leb left s) rest here (omega (arith, rest-size, fits)) low_rest high_rest

    pub number-from : (k : ℕ) → k ≤ length (slice_range places border (length places))
        → IsPartitionPoint (λ s. leb (length text - pos) s ≡ true) (λ s. leb (length text - pos) s ≡ false) (slice_range places border (length places)) k → border + k ≡ line_number text pos
    number-from k small at = omega (arith, partition_point-is (λ s. leb left s) rest here (omega (arith, rest-size, fits)) low_rest high_rest k small at)

-- ---- whether a line follows that of a place
pub none_below : (text : List ℕ) (pos : ℕ) → line_number text pos ≡ last_line text → eqb (count_by is_newline (drop pos text)) 0 ≡ true
none_below text pos last = let none : count_by is_newline (drop pos text) ≡ 0 = omega (arith, count-parts text pos) in ap (λ (n : ℕ). eqb n 0) none

pub some_below : (text : List ℕ) (pos : ℕ) → (line_number text pos ≡ last_line text → ⊥) → eqb (count_by is_newline (drop pos text)) 0 ≡ false
some_below text pos more = ne_eqb _ 0 (λ none. more (omega (arith, count-parts text pos)))

-- ---- where the text of a line stands
pub range-past : (text : List ℕ) (k : ℕ) → last_line text < k → None ≡ range_of_line text k
range-past text k past = sym (ap (option_map (λ line. between (start_of_line text k) (start_of_line text k + length line))) (slice_get_past (lines text) k (omega (arith, count_of_lines text))))

pub range-is : (text : List ℕ) (k start stop : ℕ) → k ≤ last_line text → start ≡ start_of_line text k → stop ≡ end_of_line text k → Some (between start stop) ≡ range_of_line text k
range-is text k start stop within e f = grind (arith, slice_get-get_or, count_of_lines)

-- a line that is there has a range, and the line of a place begins there or before
pub range-some : (text : List ℕ) (k : ℕ) → k ≤ last_line text → range_of_line text k ≡ None → ⊥
range-some text k within none = grind (arith, range-is)

pub range-before : (text : List ℕ) (pos k : ℕ) (r : Range ℕ) → pos ≤ length text → k ≡ line_number text pos → range_of_line text k ≡ Some r → r.start ≤ pos
range-before text pos k r within e some = grind (arith, start-before)

pub ruleset borders = (leb-started, ltb-not_started, le-leb, length-line_starts, length-table, newlines-take)

pub ruleset lines_read = (none_below, some_below, range-is, range-past, count_of_lines, end-after, start-before, start-mono, text-between)
