-- Bytes with a gap: what is beside it where it moves, and where a part goes in; and the table of the lines around a part of the text.
use Rattle.rl_line.proofs.Common.{Bool, IsAround, IsCharBoundary, IsGapped, IsTable, IsTableAround, IsUtf8, IsUtf8-drop, List, [], ap, append-nil, append_assoc, ap₂, arith, copy_within, count_by, drop, drop-drop, drop-put_mid, drop_all, drop_at, is_newline, le_refl, length, length-append, length-drop, length-take-le, line_number, max, refl, remove_range, replace_range, slice_range, subst, sym, take, take-add, take-append-drop, take-append-le, take-put_mid, take-take, take_all, take_at, true, ℕ, ◌++◌, ◌+◌, ◌-◌, ◌∙◌, ◌≡◌, ◌≤◌}
use Rattle.rl_base.proofs.Texts.TextLemmas.{IsUtf8-replaced, removed-is_replaced}
use Rattle.rl_line.proofs.Lines.RoomyLemmas.{length-swapped}
use borrow.Rule.Slice.PartMut.{put_mid}

pub length-gapped : (xs : List ℕ) (gap rest : ℕ) → gap ≤ rest → rest ≤ length xs → length (remove_range xs gap rest) ≡ length xs - (rest - gap)
length-gapped xs gap rest order inside = omega (arith, length-append (take gap xs) (drop rest xs), length-take-le gap xs (omega arith), length-drop rest xs)

-- the bytes up to a place of the text before the gap, and those from one after it on
take-gapped : (xs : List ℕ) (gap rest at : ℕ) → gap ≤ length xs → at ≤ gap → take at (remove_range xs gap rest) ≡ take at xs
take-gapped xs gap rest at inside le =
    let all : gap ≡ at + (gap - at) = omega arith in
    let halves : take gap xs ≡ take at xs ++ take (gap - at) (drop at xs) = ap (λ n. take n xs) all ∙ take-add at (gap - at) xs in
    ap (λ l. take at (l ++ drop rest xs)) halves ∙ ap (take at) (append_assoc (take at xs) _ (drop rest xs)) ∙ take_at (take at xs) _ at (length-take-le at xs (omega arith))

pub drop-gapped : (xs : List ℕ) (gap rest at : ℕ) → gap ≤ length xs → gap ≤ at → drop (rest + (at - gap)) xs ≡ drop at (remove_range xs gap rest)
drop-gapped xs gap rest at inside le =
    let all : gap + (at - gap) ≡ at = omega arith in
    sym (drop-drop (at - gap) rest xs)
    ∙ ap (drop (at - gap)) (sym (drop_at (take gap xs) (drop rest xs) gap (length-take-le gap xs inside)))
    ∙ drop-drop (at - gap) gap (remove_range xs gap rest) ∙ ap (λ n. drop n (remove_range xs gap rest)) all

-- the gap moves down, or up; an empty one may be anywhere
pub moved-down : (xs : List ℕ) (at gap rest : ℕ) → at ≤ gap → gap ≤ rest → rest ≤ length xs
    → remove_range (copy_within xs at gap (rest - (gap - at))) at (rest - (gap - at)) ≡ remove_range xs gap rest
moved-down xs at gap rest low order inside =
    let d : ℕ = rest - (gap - at) in
    let part : List ℕ = take (gap - at) (drop at xs) in
    let size : length (take d xs) ≡ d = length-take-le d xs (omega arith) in
    let end : d + (gap - at) ≡ rest = omega arith in
    let all : at + (gap - at) ≡ gap = omega arith in
    let le : at ≤ d = omega arith in
    let short : at ≤ length (take d xs) = omega (arith, size) in
    let now : copy_within xs at gap d ≡ take d xs ++ (part ++ drop rest xs) = append_assoc (take d xs) part _ ∙ ap (λ n. take d xs ++ (part ++ drop n xs)) end in
    let front : take at (copy_within xs at gap d) ≡ take at xs = ap (take at) now ∙ take-append-le at (take d xs) _ short ∙ take-take at d xs le in
    let back : drop d (copy_within xs at gap d) ≡ part ++ drop rest xs = ap (drop d) now ∙ drop_at (take d xs) _ d size in
    ap₂ (λ l r. l ++ r) front back ∙ sym (append_assoc (take at xs) part (drop rest xs))
    ∙ ap (λ l. l ++ drop rest xs) (sym (take-add at (gap - at) xs) ∙ ap (λ n. take n xs) all)

pub moved-up : (xs : List ℕ) (at gap rest : ℕ) → gap ≤ at → gap ≤ rest → rest + (at - gap) ≤ length xs
    → remove_range (copy_within xs rest (rest + (at - gap)) gap) at (rest + (at - gap)) ≡ remove_range xs gap rest
moved-up xs at gap rest low order inside =
    let end : ℕ = rest + (at - gap) in
    let part : List ℕ = take (end - rest) (drop rest xs) in
    let first : List ℕ = take gap xs ++ part in
    let count : end - rest ≡ at - gap = omega arith in
    let until : rest + (end - rest) ≡ end = omega arith in
    let now : copy_within xs rest end gap ≡ first ++ drop (gap + (end - rest)) xs = refl in
    let size : length first ≡ at = omega (arith, length-append (take gap xs) part, length-take-le gap xs (omega arith), length-take-le (end - rest) (drop rest xs) (omega (arith, length-drop rest xs)), count) in
    let front : take at (copy_within xs rest end gap) ≡ first = take_at first _ at size in
    let skip : at + (end - at) ≡ end = omega arith in
    let to : (gap + (end - rest)) + (end - at) ≡ end = omega arith in
    let back : drop end (copy_within xs rest end gap) ≡ drop end xs =
    sym (drop-drop (end - at) at (copy_within xs rest end gap) ∙ ap (λ n. drop n (copy_within xs rest end gap)) skip)
    ∙ ap (drop (end - at)) (drop_at first _ at size) ∙ drop-drop (end - at) (gap + (end - rest)) xs ∙ ap (λ n. drop n xs) to in
    ap₂ (λ l r. l ++ r) front back ∙ append_assoc (take gap xs) part (drop end xs)
    ∙ ap (λ l. take gap xs ++ l) (ap (λ l. part ++ l) (ap (λ n. drop n xs) (sym until) ∙ sym (drop-drop (end - rest) rest xs)) ∙ take-append-drop (end - rest) (drop rest xs))

pub moved-empty : (xs : List ℕ) (at gap rest : ℕ) → gap ≡ rest → remove_range xs at at ≡ remove_range xs gap rest
moved-empty xs at gap rest e = take-append-drop at xs ∙ sym (ap (λ n. take gap xs ++ drop n xs) (sym e) ∙ take-append-drop gap xs)

-- a part goes into the gap, after which some bytes go
pub filled : (xs part : List ℕ) (gap rest going end : ℕ) → gap ≤ length xs → end ≡ rest + going
    → replace_range xs gap end part ≡ replace_range (remove_range xs gap rest) gap (gap + going) part
filled xs part gap rest going end inside is =
    let same : rest + ((gap + going) - gap) ≡ end = omega (arith, is) in
    let front : take gap (remove_range xs gap rest) ≡ take gap xs = take-gapped xs gap rest gap inside (le_refl gap) in
    let back : drop end xs ≡ drop (gap + going) (remove_range xs gap rest) = ap (λ n. drop n xs) (sym same) ∙ drop-gapped xs gap rest (gap + going) inside (omega arith) in
    ap₂ (λ l r. (l ++ part) ++ r) (sym front) back

-- ---- the table around a part of the text
pub put_in-is : (xs part written : List ℕ) (gap rest going : ℕ) → written ≡ part → gap ≤ rest → gap + length part ≤ rest + going → rest + going ≤ length xs
    → remove_range (put_mid gap (gap + length part - gap) xs written) (gap + length part) (rest + going) ≡ replace_range (remove_range xs gap rest) gap (gap + going) part
put_in-is xs part written gap rest going same order room inside =
    let k : ℕ = gap + length part - gap in
    let size : length written ≡ length part = ap length same in
    let front : take (gap + length part) (put_mid gap k xs written) ≡ take gap xs ++ part =
    take-put_mid gap k xs written (gap + length part) (omega (arith, size)) (omega arith) ∙ ap (λ l. take gap xs ++ l) same in
    let back : drop (rest + going) (put_mid gap k xs written) ≡ drop (rest + going) xs = drop-put_mid gap k xs written (rest + going) (omega arith) (omega arith) (omega (arith, size)) in
    ap₂ (λ l r. l ++ r) front back ∙ filled xs part gap rest going (rest + going) (omega arith) refl

-- a gap at the end opens, and closes
pub opened : (text more bytes : List ℕ) (len n : ℕ) → bytes ≡ take n text ++ more → length text ≡ len → length more ≡ n - len → len ≤ n → (remove_range bytes len n ≡ text) × (length bytes ≡ n)
opened text more bytes len n is size count order =
    let whole : take n text ≡ text = take_all n text (omega (arith, size)) in
    let same : bytes ≡ text ++ more = is ∙ ap (λ l. l ++ more) whole in
    let all : length (text ++ more) ≡ n = omega (arith, length-append text more, size, count) in (
      ap (λ l. remove_range l len n) same ∙ ap₂ (λ l r. l ++ r) (take_at text more len size) (drop_all n (text ++ more) (omega (arith, all))) ∙ append-nil text,
      ap length same ∙ all,
    )

pub closed : (xs : List ℕ) (gap rest : ℕ) → gap ≤ rest → rest ≤ length xs → length (remove_range xs gap rest) ≡ gap → take gap xs ≡ remove_range xs gap rest
closed xs gap rest order inside size =
    let end : length xs ≤ rest = omega (arith, size, length-gapped xs gap rest order inside) in
    sym (ap (λ l. take gap xs ++ l) (drop_all rest xs end) ∙ append-nil (take gap xs))

module _ (text part : List ℕ) (from to front back : ℕ) (order : from ≤ to) (end : to ≤ length text) (low : front ≤ from) (high : back ≤ length text - to) where
  abbrev now : List ℕ
  now = replace_range text from to part

  size : length now ≡ length text - (to - from) + length part
  size = length-swapped text part from to order end

  same-front : take front now ≡ take front text
  same-front =
      let at : length (take from text) ≡ from = length-take-le from text (omega arith) in
      ap (take front) (append_assoc (take from text) part (drop to text)) ∙ take-append-le front (take from text) _ (omega (arith, at)) ∙ take-take front from text low

  same-back : drop (length now - back) now ≡ drop (length text - back) text
  same-back =
      let k : ℕ = (length text - back) - to in
      let at : length (take from text ++ part) ≡ from + length part = omega (arith, length-append (take from text) part, length-take-le from text (omega arith)) in
      let place : (from + length part) + k ≡ length now - back = omega (arith, size) in
      let there : to + k ≡ length text - back = omega arith in
      ap (λ n. drop n now) (sym place) ∙ sym (drop-drop k (from + length part) now) ∙ ap (drop k) (drop_at (take from text ++ part) (drop to text) (from + length part) at)
      ∙ drop-drop k to text ∙ ap (λ n. drop n text) there

  pub IsTableAround-stepped : (starts : List ℕ) (border : ℕ) → IsTableAround starts border front back text → IsTableAround starts border front back now
  IsTableAround-stepped starts border h =
      record {
        order = omega (arith, size);
        table = subst (IsTable starts border) (sym (ap₂ (λ l r. l ++ r) same-front same-back)) h.table;
        seam = h.seam ∙ sym (ap (count_by is_newline) same-front);
      }

-- the table of a text, cut around a range
pub IsTableAround-cut : (starts text : List ℕ) (border from to : ℕ) → from ≤ to → to ≤ length text → IsTable starts border (replace_range text from to []) → border ≡ line_number text from + 0
    → IsTableAround starts border from (length text - to) text
IsTableAround-cut starts text border from to order end table seam =
    let there : length text - (length text - to) ≡ to = omega arith in
    record {
      order = omega arith;
      table = subst (λ n. IsTable starts border (remove_range text from n)) (sym there) (subst (IsTable starts border) (sym (removed-is_replaced text from to)) table);
      seam = omega (arith, seam);
    }

-- and that of the whole, once the part is back
pub around-whole : (text : List ℕ) (front end : ℕ) → front ≤ end → end ≤ length text → replace_range (remove_range text front end) front front (slice_range text front end) ≡ text
around-whole text front end order inside =
    let at : length (take front text) ≡ front = length-take-le front text (omega arith) in
    let until : front + (end - front) ≡ end = omega arith in
    ap₂ (λ l r. (l ++ slice_range text front end) ++ r) (take_at (take front text) _ front at) (drop_at (take front text) _ front at)
    ∙ ap (λ l. l ++ drop end text) (sym (take-add front (end - front) text) ∙ ap (λ n. take n text) until) ∙ take-append-drop end text

pub around-number : (text : List ℕ) (front end : ℕ) → front ≤ length text → line_number (remove_range text front end) front ≡ line_number text front
around-number text front end inside = ap (count_by is_newline) (take_at (take front text) (drop end text) front (length-take-le front text inside))

-- ---- a line with a gap
-- the gap moves
pub IsGapped-moved : (bytes moved starts : List ℕ) (gap rest at end border front back : ℕ) (has : Bool) (cursor limit : ℕ) → IsGapped bytes starts gap rest border front back has cursor limit
    → remove_range moved at end ≡ remove_range bytes gap rest → at ≤ end → end ≤ length moved → IsGapped moved starts at end border front back has cursor limit
IsGapped-moved bytes moved starts gap rest at end border front back has cursor limit h same order inside =
    record { order = order; inside = inside; around = subst (λ t. IsAround t starts border front back has cursor limit) (sym same) h.around }

-- a step is taken
pub IsAround-stepped : (text part starts : List ℕ) (from to border front back : ℕ) (had has : Bool) (was cursor limit : ℕ) → IsAround text starts border front back had was limit → IsUtf8 part
    → from ≤ to → IsCharBoundary text from → IsCharBoundary text to → IsCharBoundary (replace_range text from to part) cursor
    → (has ≡ true → (had ≡ true) × (front ≤ from) × (back ≤ length text - to))
    → IsAround (replace_range text from to part) starts border front back has cursor (max limit (length (replace_range text from to part)))
IsAround-stepped text part starts from to border front back had has was cursor limit h utf8 order start end at keeps =
    record {
      utf8 = IsUtf8-replaced text from to part h.utf8 utf8 start end;
      table = λ yes. let k = keeps yes in IsTableAround-stepped text part from to front back order end.0 k.1 k.2 starts border (h.table k.0);
      at_boundary = at;
      within = omega arith;
    }

-- what holds of the line within
pub AsGapped : (bytes starts : List ℕ) (gap rest border front back : ℕ) (has : Bool) (cursor limit : ℕ) → IsGapped bytes starts gap rest border front back has cursor limit
    → IsUtf8 (remove_range bytes gap rest) × (length (remove_range bytes gap rest) ≤ limit) × (length (remove_range bytes gap rest) ≤ length bytes)
AsGapped bytes starts gap rest border front back has cursor limit h = (h.around.utf8, h.around.within, omega (arith, length-gapped bytes gap rest h.order h.inside))

pub ruleset gaps = (moved-down, moved-up, moved-empty, length-gapped, put_in-is)

pub ruleset gapped = (IsGapped-moved, IsTableAround-cut, around-whole, around-number, length-gapped, drop-gapped, IsUtf8-drop)

pub ruleset lines_known = (AsGapped, length-gapped)
