use Rattle.rl_line.proofs.Common.{All, All-append, All-cons, All-drop, All-get_or, All-head, All-map, All-nil, All-tail, All-take, All-weaker, Bool, IsTable, List, [], after_newlines, and_parts, ap, append-nil, append_assoc, ap₂, arith, common_steps, cond, cond_both, copy_within, count_by, drop, drop-drop, drop-map, drop_all, drop_at, drop_more, encode_ascii, encode_utf8, enumerate_from, eqb-false, eqb-true, false, filter, from_end, get_or, get_or-map, get_or_at, insert, inside_one, is_byte, is_newline, kept_starts, leb-true, length, length-append, length-between, length-drop, length-map, length-replicate, length-take, length-take-le, line_number, line_starts, map, map_push, nat_le, ne_eqb, nil_from_length, places, refl, remove, replace_range, set, set_at, slice_range, starts_from_end, subst, suc, sum_by-append, sum_by-cons, sym, take, take-add, take-append-drop, take-map, take_all, take_at, true, zero, ℕ, ◌&&◌, ◌++◌, ◌+◌, ◌-◌, ◌<◌, ◌==◌, ◌∙◌, ◌∷◌, ◌≡◌, ◌≤◌}
use Rattle.memchr.specs.Find.{places_from}
-- The places right after the newlines of a text: of two joined, how many there are, and where they lie; and the table of them with a border: where it lies between two parts of the text, where it moves, and where a range gives way to a part.
use borrow.Rule.Slice.PartMut.{put_mid}

map-cond : {A B : Type 0} (f : A → B) (is : Bool) (x : A) (l : List A) → map f (cond is (x ∷ l) l) ≡ cond is (f x ∷ map f l) (map f l)
map-cond f true x l = refl
map-cond f false x l = refl

pub after_newlines-cons : (n b : ℕ) (bs : List ℕ) → after_newlines n (b ∷ bs) ≡ cond (is_newline b) (n ∷ after_newlines (n + 1) bs) (after_newlines (n + 1) bs)
after_newlines-cons n b bs = map-cond (λ (x : ℕ × ℕ). x.0) (is_newline b) (n, b) (filter (λ x. is_newline x.1) (enumerate_from (n + 1) bs))

pub after_newlines-append : (n : ℕ) (xs ys : List ℕ) → after_newlines n (xs ++ ys) ≡ after_newlines n xs ++ after_newlines (n + length xs) ys
after_newlines-append n [] ys = let same : n ≡ n + 0 = omega arith in ap (λ k. after_newlines k ys) same
after_newlines-append n (b ∷ xs) ys =
    let same : n + 1 + length xs ≡ n + length (b ∷ xs) = omega arith in
    let rest = after_newlines-append (n + 1) xs ys ∙ ap (λ k. after_newlines (n + 1) xs ++ after_newlines k ys) same in
    after_newlines-cons n b (xs ++ ys) ∙ ap (λ l. cond (is_newline b) (n ∷ l) l) rest
    ∙ onto (is_newline b) (after_newlines (n + 1) xs) (after_newlines (n + length (b ∷ xs)) ys)
    ∙ ap (λ l. l ++ after_newlines (n + length (b ∷ xs)) ys) (sym (after_newlines-cons n b xs))
  where
    onto : (is : Bool) (l r : List ℕ) → cond is (n ∷ (l ++ r)) (l ++ r) ≡ cond is (n ∷ l) l ++ r
    onto true l r = refl
    onto false l r = refl

-- the same places, counted from the end of a text that is longer by as much as they are further on
from_end-moved : (len c k : ℕ) (xs : List ℕ) → map (from_end (len + c)) (after_newlines (k + c) xs) ≡ map (from_end len) (after_newlines k xs)
from_end-moved len c k [] = refl
from_end-moved len c k (b ∷ xs) =
    let here : from_end (len + c) (k + c) ≡ from_end len k = omega arith in
    let more : k + c + 1 ≡ k + 1 + c = omega arith in
    let rest = ap (λ n. map (from_end (len + c)) (after_newlines n xs)) more ∙ from_end-moved len c (k + 1) xs in
    ap (map (from_end (len + c))) (after_newlines-cons (k + c) b xs)
    ∙ map-cond (from_end (len + c)) (is_newline b) (k + c) (after_newlines (k + c + 1) xs)
    ∙ ap₂ (λ n l. cond (is_newline b) (n ∷ l) l) here rest
    ∙ sym (map-cond (from_end len) (is_newline b) k (after_newlines (k + 1) xs))
    ∙ sym (ap (map (from_end len)) (after_newlines-cons k b xs))

pub length-after_newlines : (n : ℕ) (xs : List ℕ) → length (after_newlines n xs) ≡ count_by is_newline xs
length-after_newlines n [] = refl
length-after_newlines n (b ∷ xs) =
    ap length (after_newlines-cons n b xs) ∙ one (is_newline b) (after_newlines (n + 1) xs)
    ∙ ap (λ k. cond (is_newline b) 1 0 + k) (length-after_newlines (n + 1) xs) ∙ sym (sum_by-cons (λ y. cond (is_newline y) 1 0) b xs)
  where
    one : (is : Bool) (l : List ℕ) → length (cond is (n ∷ l) l) ≡ cond is 1 0 + length l
    one true l = omega arith
    one false l = omega arith

-- a place right after a newline of a text that begins at n
pub record IsAfterNewline (n : ℕ) (text : List ℕ) (place : ℕ) : Type 0 where
  pub from : n ≤ place
  pub within : place < n + length text
  pub newline : get_or text (place - n) 0 ≡ 10

pub all_after_newlines : (n : ℕ) (text : List ℕ) → All (IsAfterNewline n text) (after_newlines n text)
all_after_newlines n [] = All-nil _
all_after_newlines n (b ∷ bs) =
    let P : ℕ → Type 0 = IsAfterNewline n (b ∷ bs) in
    let next : (s : ℕ) → IsAfterNewline (n + 1) bs s → P s =
    λ s h. let at : s - n ≡ suc (s - (n + 1)) = omega arith in record { from = omega arith; within = omega arith; newline = ap (λ i. get_or (b ∷ bs) i 0) at ∙ h.newline } in
    let here : is_newline b ≡ true → P n =
    λ e. let at : n - n ≡ 0 = omega arith in record { from = omega arith; within = omega arith; newline = ap (λ i. get_or (b ∷ bs) i 0) at ∙ eqb-true b 10 e } in
    let later : All P (after_newlines (n + 1) bs) = All-weaker (IsAfterNewline (n + 1) bs) P next _ (all_after_newlines (n + 1) bs) in
    rw (after_newlines-cons n b bs) (cond_both (is_newline b) _ _ (All P) (λ e. All-cons P n _ (here e) later) (λ e. later))

-- a table has as many places as the text has newlines, and a part of the text has no more
pub length-line_starts : (text : List ℕ) → length (line_starts text) ≡ count_by is_newline text
length-line_starts text = length-after_newlines 1 text

pub length-starts_from_end : (text : List ℕ) → length (starts_from_end text) ≡ count_by is_newline text
length-starts_from_end text = length-map (line_starts text) (from_end (length text)) ∙ length-line_starts text

pub length-kept : (border : ℕ) (text : List ℕ) → length (kept_starts border text) ≡ count_by is_newline text
length-kept border text = grind (arith, length-append, length-take, length-drop, length-line_starts, length-starts_from_end)

pub length-table : (places : List ℕ) (border : ℕ) (text : List ℕ) → IsTable places border text → length places ≡ count_by is_newline text
length-table places border text h = ap length h.kept ∙ length-kept border text

pub newlines-append : (xs ys : List ℕ) → count_by is_newline (xs ++ ys) ≡ count_by is_newline xs + count_by is_newline ys
newlines-append xs ys = sum_by-append (λ b. cond (is_newline b) 1 0) xs ys

pub newlines-take : (text : List ℕ) (n : ℕ) → count_by is_newline (take n text) ≤ count_by is_newline text
newlines-take text n = omega (arith, newlines-append (take n text) (drop n text), ap (count_by is_newline) (take-append-drop n text))

-- ---- a range of a text gives way to a part
pub newlines-front : (text : List ℕ) (from to : ℕ) → from ≤ to → count_by is_newline (take to text) ≡ count_by is_newline (take from text) + count_by is_newline (slice_range text from to)
newlines-front text from to le =
    ap (λ n. count_by is_newline (take n text)) (omega arith) ∙ ap (count_by is_newline) (take-add from (to - from) text)
    ∙ newlines-append (take from text) (slice_range text from to)

pub newlines-replaced : (text part : List ℕ) (from to : ℕ) → from ≤ to
    → count_by is_newline (replace_range text from to part) ≡ count_by is_newline text - count_by is_newline (slice_range text from to) + count_by is_newline part
newlines-replaced text part from to le =
    omega (
      arith,
      newlines-append (take from text ++ part) (drop to text),
      newlines-append (take from text) part,
      newlines-append (take to text) (drop to text),
      ap (count_by is_newline) (take-append-drop to text),
      newlines-front text from to le,
    )

-- the newlines of a character: one where it is the newline, since the bytes of any other that is not ASCII are not ASCII either
newlines-none : (bytes : List ℕ) → ((k : ℕ) → k < length bytes → get_or bytes k 0 ≡ 10 → ⊥) → count_by is_newline bytes ≡ 0
newlines-none [] others = refl
newlines-none (b ∷ bytes) others =
    let here : is_newline b ≡ false = ne_eqb b 10 (others 0 (omega arith)) in
    sum_by-cons (λ x. cond (is_newline x) 1 0) b bytes
    ∙ ap₂ (λ is n. cond is 1 0 + n) here (newlines-none bytes (λ k within is. others (suc k) (omega arith) is))

pub newlines-one : (c : ℕ) → c ≡ 10 → count_by is_newline (encode_utf8 c) ≡ 1
newlines-one c is = ap (count_by is_newline) (encode_ascii c (omega (arith, is))) ∙ ap (λ b. count_by is_newline (b ∷ [])) is

pub newlines-other : (c : ℕ) → (c ≡ 10 → ⊥) → count_by is_newline (encode_utf8 c) ≡ 0
newlines-other c isnt =
    newlines-none (encode_utf8 c) (λ k within is. isnt (inside_one c [] (encode_utf8 c) k (sym (append-nil (encode_utf8 c))) within (omega (arith, is)) ∙ is))

-- the starts up to a place, and after it
pub parts : (text : List ℕ) (pos : ℕ) → pos ≤ length text → line_starts text ≡ line_starts (take pos text) ++ after_newlines (pos + 1) (drop pos text)
parts text pos within =
    let place : 1 + length (take pos text) ≡ pos + 1 = omega (arith, length-take-le pos text within) in
    ap line_starts (sym (take-append-drop pos text)) ∙ after_newlines-append 1 (take pos text) (drop pos text)
    ∙ ap (λ n. line_starts (take pos text) ++ after_newlines n (drop pos text)) place

-- ---- a table whose border lies between two parts of its text
drop-from_end : (xs ys : List ℕ) → drop (count_by is_newline xs) (starts_from_end (xs ++ ys)) ≡ starts_from_end ys
drop-from_end xs ys = grind (arith, common_steps, after_newlines-append, length-line_starts, from_end-moved)

kept-between : (xs ys : List ℕ) → kept_starts (count_by is_newline xs) (xs ++ ys) ≡ line_starts xs ++ starts_from_end ys
kept-between xs ys = grind (arith, common_steps, after_newlines-append, length-line_starts, drop-from_end)

IsTable-between : (xs ys : List ℕ) → IsTable (line_starts xs ++ starts_from_end ys) (count_by is_newline xs) (xs ++ ys)
IsTable-between xs ys = grind (arith, common_steps, kept-between, length-line_starts)

-- ---- a range of a text gives way to a part where the border is
module _ (places text part : List ℕ) (from to first gone : ℕ) (h : IsTable places first text) (order : from ≤ to) (within : to ≤ length text)
    (number : first ≡ line_number text from) (cut : gone ≡ count_by is_newline (slice_range text from to)) where
  abbrev front : List ℕ
  front = take from text

  at_border : places ≡ line_starts front ++ starts_from_end (drop from text)
  at_border = h.kept ∙ ap₂ kept_starts number (sym (take-append-drop from text)) ∙ kept-between front (drop from text)

  count : length (line_starts front) ≡ first
  count = length-line_starts front ∙ sym number

  before : take first places ≡ line_starts front
  before = ap (take first) at_border ∙ take_at (line_starts front) _ first count

  after : drop (first + gone) places ≡ starts_from_end (drop to text)
  after =
      let rest = drop from text in
      let gap = slice_range text from to in
      let until : from + (to - from) ≡ to = omega arith in
      let halves : rest ≡ gap ++ drop to text =
      sym (take-append-drop (to - from) rest) ∙ ap (λ l. gap ++ l) (drop-drop (to - from) from text ∙ ap (λ n. drop n text) until) in
      sym (drop-drop gone first places) ∙ ap (λ l. drop gone (drop first l)) at_border ∙ ap (drop gone) (drop_at (line_starts front) _ first count)
      ∙ ap₂ (λ n l. drop n (starts_from_end l)) cut halves ∙ drop-from_end gap (drop to text)

  pub IsTable-replaced : IsTable (take first places ++ (after_newlines (from + 1) part ++ drop (first + gone) places)) (first + count_by is_newline part) (replace_range text from to part)
  IsTable-replaced =
      let place : 1 + length front ≡ from + 1 = omega (arith, length-take-le from text (omega arith)) in
      let starts : line_starts (front ++ part) ≡ line_starts front ++ after_newlines (from + 1) part =
      after_newlines-append 1 front part ∙ ap (λ n. line_starts front ++ after_newlines n part) place in
      let all : line_starts (front ++ part) ++ starts_from_end (drop to text) ≡ take first places ++ (after_newlines (from + 1) part ++ drop (first + gone) places) =
      ap (λ l. l ++ starts_from_end (drop to text)) starts ∙ append_assoc (line_starts front) (after_newlines (from + 1) part) _
      ∙ sym (ap₂ (λ l r. l ++ (after_newlines (from + 1) part ++ r)) before after) in
      let border : count_by is_newline (front ++ part) ≡ first + count_by is_newline part = newlines-append front part ∙ ap (λ n. n + count_by is_newline part) (sym number) in
      subst (λ l. IsTable l (first + count_by is_newline part) (replace_range text from to part)) all
      (subst (λ n. IsTable (line_starts (front ++ part) ++ starts_from_end (drop to text)) n (replace_range text from to part)) border (IsTable-between (front ++ part) (drop to text)))

-- where no newline comes or goes at the border, the table stays
pub IsTable-stays : (places text part : List ℕ) (from to come border : ℕ) → IsTable places border text → from ≤ to → to ≤ length text → come ≡ count_by is_newline part
    → (come == 0 && (nat_le border (line_number text from) && nat_le (line_number text to) border)) ≡ true → IsTable places border (replace_range text from to part)
IsTable-stays places text part from to come border h order within count stay =
    let both = and_parts (come == 0) _ stay in
    let ends = and_parts (nat_le border (line_number text from)) _ both.1 in
    let clean : count_by is_newline part ≡ 0 = sym count ∙ eqb-true come 0 both.0 in
    let low = leb-true _ _ ends.0 in
    let high = leb-true _ _ ends.1 in
    let number : border ≡ line_number text from = omega (arith, low, high, newlines-front text from to order) in
    let gone : 0 ≡ count_by is_newline (slice_range text from to) = omega (arith, low, high, newlines-front text from to order) in
    let new : after_newlines (from + 1) part ≡ [] = nil_from_length _ (length-after_newlines (from + 1) part ∙ clean) in
    let same : border + count_by is_newline part ≡ border = omega (arith, clean) in
    let none : border + 0 ≡ border = omega arith in
    let all : take border places ++ (after_newlines (from + 1) part ++ drop (border + 0) places) ≡ places =
    ap₂ (λ l n. take border places ++ (l ++ drop n places)) new none ∙ take-append-drop border places in
    subst (λ n. IsTable places n (replace_range text from to part)) same
    (subst (λ l. IsTable l (border + count_by is_newline part) (replace_range text from to part)) all (IsTable-replaced places text part from to border 0 h order within number gone))

-- ---- the border moves, and the starts that it passes are counted from the other end
starts-within : (text : List ℕ) → All (λ s. s ≤ length text) (line_starts text)
starts-within text = All-weaker (IsAfterNewline 1 text) (λ s. s ≤ length text) (λ s h. omega arith) _ (all_after_newlines 1 text)

twice : (len : ℕ) (xs : List ℕ) → All (λ s. s ≤ len) xs → map (from_end len) (map (from_end len) xs) ≡ xs
twice len [] h = refl
twice len (x ∷ xs) h =
    let P : ℕ → Type 0 = λ s. s ≤ len in
    let here : from_end len (from_end len x) ≡ x = omega (arith, All-head P x xs h) in
    ap₂ (λ y l. y ∷ l) here (twice len xs (All-tail P x xs h))

-- the part of a list between two places is turned
turned : (f : ℕ → ℕ) (xs ys more : List ℕ) (a b : ℕ) → length xs ≡ a → length ys ≡ b - a
    → put_mid a (b - a) (xs ++ (ys ++ more)) (map f (slice_range (xs ++ (ys ++ more)) a b)) ≡ xs ++ (map f ys ++ more)
turned f xs ys more a b len size = grind (arith, common_steps)

module _ (text : List ℕ) (low high : ℕ) (order : low ≤ high) (within : high ≤ length (line_starts text)) where
  abbrev len : ℕ
  len = length text

  abbrev start : List ℕ
  start = take low (line_starts text)

  abbrev passed : List ℕ
  passed = slice_range (line_starts text) low high

  abbrev rest : List ℕ
  rest = drop high (starts_from_end text)

  kept-high : kept_starts high text ≡ start ++ (passed ++ rest)
  kept-high =
      let until : high ≡ low + (high - low) = omega arith in
      ap (λ l. l ++ rest) (ap (λ n. take n (line_starts text)) until ∙ take-add low (high - low) (line_starts text)) ∙ append_assoc start passed rest

  kept-low : kept_starts low text ≡ start ++ (map (from_end len) passed ++ rest)
  kept-low =
      let ends = starts_from_end text in
      let until : low + (high - low) ≡ high = omega arith in
      let first : take (high - low) (drop low ends) ≡ map (from_end len) passed =
      ap (take (high - low)) (drop-map (from_end len) low (line_starts text)) ∙ take-map (from_end len) (high - low) (drop low (line_starts text)) in
      ap (λ l. start ++ l) (sym (take-append-drop (high - low) (drop low ends)) ∙ ap₂ (λ l r. l ++ r) first (drop-drop (high - low) low ends ∙ ap (λ n. drop n ends) until))

  size : length passed ≡ high - low
  size = length-between (line_starts text) low high within

  pub border-down : put_mid low (high - low) (kept_starts high text) (map (from_end len) (slice_range (kept_starts high text) low high)) ≡ kept_starts low text
  border-down = grind (arith, common_steps, kept-high, kept-low)

  pub border-up : put_mid low (high - low) (kept_starts low text) (map (from_end len) (slice_range (kept_starts low text) low high)) ≡ kept_starts high text
  border-up =
      let there : All (λ s. s ≤ len) passed = All-take (λ s. s ≤ len) (high - low) _ (All-drop (λ s. s ≤ len) low _ (starts-within text)) in
      ap (λ l. put_mid low (high - low) l (map (from_end len) (slice_range l low high))) kept-low
      ∙ turned (from_end len) start (map (from_end len) passed) rest low high (length-take-le low (line_starts text) (omega arith)) (length-map passed (from_end len) ∙ size)
      ∙ ap (λ l. start ++ (l ++ rest)) (twice len passed there) ∙ sym kept-high

-- a table of n places, of which those from number k on were written over
pub written-after : (k n : ℕ) (old new more : List ℕ) → length old ≡ n → k ≤ n → length new ≡ n - k
    → take n (put_mid k (length old - k) old new ++ more) ≡ take k old ++ new
written-after k n old new more len le size = grind (arith, common_steps)

module _ (places now more text : List ℕ) (old border n : ℕ) (h : IsTable places old text) (len : length places ≡ n) where
  all : n ≡ count_by is_newline text
  all = sym len ∙ length-table places old text h

  -- those that the border passes are turned
  moved : (low high : ℕ) → low ≤ high → high ≤ n → border ≤ n → now ≡ map (from_end (length text)) (slice_range places low high)
      → put_mid low (high - low) (kept_starts old text) (map (from_end (length text)) (slice_range (kept_starts old text) low high)) ≡ kept_starts border text
      → IsTable (take n (put_mid low (high - low) places now ++ more)) border text
  moved low high order top within is turns = grind (arith, common_steps)

  pub moved-down : border ≤ old → now ≡ map (from_end (length text)) (slice_range places border old) → IsTable (take n (put_mid border (old - border) places now ++ more)) border text
  moved-down le is = grind (arith, common_steps, border-down)

  pub moved-up : old ≤ border → border ≤ n → now ≡ map (from_end (length text)) (slice_range places old border) → IsTable (take n (put_mid old (border - old) places now ++ more)) border text
  moved-up le within is = moved old border le within within is (border-up text old border le (omega (arith, all, length-line_starts text)))

-- what a table keeps can be counted from the other end
kept-within : (border : ℕ) (text : List ℕ) → All (λ place. place ≤ length text) (kept_starts border text)
kept-within border text =
    let P : ℕ → Type 0 = λ place. place ≤ length text in
    let ends : All P (starts_from_end text) = All-map P (from_end (length text)) (line_starts text) (All-weaker P (λ s. from_end (length text) s ≤ length text) (λ s h. omega arith) _ (starts-within text)) in
    All-append P (take border (line_starts text)) (drop border (starts_from_end text)) (All-take P border _ (starts-within text)) (All-drop P border _ ends)

pub table-within : (places : List ℕ) (border : ℕ) (text : List ℕ) → IsTable places border text → All (λ place. place ≤ length text) places
table-within places border text h = subst (All (λ place. place ≤ length text)) (sym h.kept) (kept-within border text)

pub slice-within : (places : List ℕ) (border low high : ℕ) (text : List ℕ) → IsTable places border text → All (λ place. place ≤ length text) (slice_range places low high)
slice-within places border low high text h = grind (arith, common_steps, table-within)

-- the table that is left where those from number `first` on were written over
pub IsTable-written : (first n border : ℕ) (old new more all text : List ℕ) → length old ≡ n → first ≤ n → length new ≡ n - first → take first old ++ new ≡ all → IsTable all border text
    → IsTable (take n (put_mid first (length old - first) old new ++ more)) border text
IsTable-written first n border old new more all text len le size is h = subst (λ l. IsTable l border text) (sym (written-after first n old new more len le size ∙ is)) h

-- ---- a start is read
module _ (places text : List ℕ) (border k : ℕ) (h : IsTable places border text) (some : k < length places) where
  pub read-before : k < border → get_or places k 0 ≡ get_or (line_starts text) k 0
  read-before less = grind (arith, common_steps)

  pub read-from : border ≤ k → get_or places k 0 ≡ from_end (length text) (get_or (line_starts text) k 0)
  read-from past = grind (arith, common_steps)

  pub read-within : get_or (line_starts text) k 0 ≤ length text
  read-within = All-get_or (λ s. s ≤ length text) (line_starts text) k 0 (omega (arith, length-table places border text h, length-line_starts text)) (starts-within text)

-- ---- the newlines that a search finds
found-from : (n m i : ℕ) (text : List ℕ) → m ≡ length text - i → i ≤ length text
    → map (λ p. n + p) (places_from (is_byte 10) text i m) ≡ after_newlines (n + i) (drop i text)
unfolding places_from
found-from n zero i text left within = ap (after_newlines (n + i)) (sym (drop_all i text (omega (arith, left))))
found-from n (suc m) i text left within =
    let b = get_or text i 0 in
    let next : n + (i + 1) ≡ n + i + 1 = omega arith in
    let rest : map (λ p. n + p) (places_from (is_byte 10) text (i + 1) m) ≡ after_newlines (n + i + 1) (drop (i + 1) text) =
    found-from n m (i + 1) text (omega (arith, left)) (omega (arith, left)) ∙ ap (λ k. after_newlines k (drop (i + 1) text)) next in
    map-cond (λ p. n + p) (is_newline b) i (places_from (is_byte 10) text (i + 1) m)
    ∙ ap (λ l. cond (is_newline b) ((n + i) ∷ l) l) rest
    ∙ sym (ap (after_newlines (n + i)) (drop_more text i 0 (omega (arith, left))) ∙ after_newlines-cons (n + i) b (drop (i + 1) text))

pub found : (n : ℕ) (text : List ℕ) → map (λ p. n + p) (places (is_byte 10) text) ≡ after_newlines n text
found n text = grind (arith, found-from)

pub length-found : (text : List ℕ) → length (places (is_byte 10) text) ≡ count_by is_newline text
length-found text = sym (length-map (places (is_byte 10) text) (λ p. 0 + p)) ∙ ap length (found 0 text) ∙ length-after_newlines 0 text

pub found-within : (text done more : List ℕ) (x : ℕ) → done ++ x ∷ more ≡ places (is_byte 10) text → x < length text
found-within text done more x split =
    let P : ℕ → Type 0 = IsAfterNewline 0 text in
    let all : All P (map (λ p. 0 + p) (places (is_byte 10) text)) = subst (All P) (sym (found 0 text)) (all_after_newlines 0 text) in
    let some : length done < length (places (is_byte 10) text) = omega (arith, ap length split, length-append done (x ∷ more)) in
    let at : get_or (map (λ p. 0 + p) (places (is_byte 10) text)) (length done) 0 ≡ 0 + x =
    get_or-map (λ p. 0 + p) (places (is_byte 10) text) (length done) 0 0 some ∙ ap (λ k. 0 + k) (ap (λ l. get_or l (length done) 0) (sym split) ∙ get_or_at done x more 0 (length done) refl) in
    let here : P (get_or (map (λ p. 0 + p) (places (is_byte 10) text)) (length done) 0) =
    All-get_or P (map (λ p. 0 + p) (places (is_byte 10) text)) (length done) 0 (omega (arith, length-map (places (is_byte 10) text) (λ (p : ℕ). 0 + p))) all in
    omega (arith, at, here.within)

-- the newline that a search comes to says where a line begins
pub found-nth : (text done more : List ℕ) (x k : ℕ) → done ++ x ∷ more ≡ places (is_byte 10) text → k ≡ length done → x + 1 ≡ get_or (line_starts text) k 0
found-nth text done more x k split size =
    let some : k < length (places (is_byte 10) text) = omega (arith, size, ap length split, length-append done (x ∷ more)) in
    omega (
      arith,
      ap (λ l. get_or l k 0) (found 1 text),
      get_or-map (λ p. 1 + p) (places (is_byte 10) text) k 0 0 some,
      ap (λ l. get_or l k 0) (sym split) ∙ get_or_at done x more 0 k (sym size),
    )

-- a turn of the loop that puts them: one more stands in the table
pub put_more : (n i place x : ℕ) (done old now : List ℕ) → i ≡ length done → i < length old → now ≡ map (λ p. n + p) done ++ drop i old → place ≡ n + x
    → set now i place ≡ map (λ p. n + p) (done ++ x ∷ []) ++ drop (i + 1) old
put_more n i place x done old now size room is at =
    let start = map (λ p. n + p) done in
    let count : length start ≡ i = length-map done (λ p. n + p) ∙ sym size in
    ap₂ (λ l p. set l i p) (is ∙ ap (λ l. start ++ l) (drop_more old i 0 room)) at
    ∙ set_at start (get_or old i 0) (drop (i + 1) old) (n + x) i count
    ∙ sym (append_assoc start ((n + x) ∷ []) (drop (i + 1) old))
    ∙ ap (λ l. l ++ drop (i + 1) old) (sym (map_push (λ p. n + p) done x))

-- ---- a gap of `come` in place of `gone`
pub gap-more : (at gone come : ℕ) (xs : List ℕ) → at ≤ length xs → come ≡ gone + 1 → drop (at + come) (insert xs at 0) ≡ drop (at + gone) xs
gap-more at gone come xs le one =
    let next : come ≡ suc gone = omega arith in
    sym (drop-drop come at (insert xs at 0)) ∙ ap (drop come) (drop_at (take at xs) (0 ∷ drop at xs) at (length-take-le at xs le)) ∙ ap (λ k. drop k (0 ∷ drop at xs)) next ∙ drop-drop gone at xs

pub gap-less : (at gone come : ℕ) (xs : List ℕ) → at ≤ length xs → gone ≡ come + 1 → drop (at + come) (remove xs at) ≡ drop (at + gone) xs
gap-less at gone come xs le one =
    let place : suc at + come ≡ at + gone = omega arith in
    sym (drop-drop come at (remove xs at)) ∙ ap (drop come) (drop_at (take at xs) (drop (suc at) xs) at (length-take-le at xs le)) ∙ drop-drop come (suc at) xs ∙ ap (λ k. drop k xs) place

pub gap-up : (at gone come len : ℕ) (xs more : List ℕ) → length xs ≡ len → at + gone ≤ len → gone < come → length more ≡ come - gone
    → let now = copy_within (xs ++ more) (at + gone) len (at + come) in (take at now ≡ take at xs) × (drop (at + come) now ≡ drop (at + gone) xs)
gap-up at gone come len xs more size within less count = grind (arith, common_steps)

pub ruleset tables = (IsTable-stays, length-table, newlines-front, newlines-replaced, newlines-take, take_all)

pub ruleset turned_starts = (moved-down, moved-up, slice-within)

pub ruleset gaps = (gap-less, gap-more, gap-up, length-replicate, take_all)

pub ruleset newlines_told = (newlines-one, newlines-other, eqb-false, eqb-true)

pub ruleset found_starts = (found, found-nth, found-within, length-found, put_more, append_assoc, append-nil, length-append)
