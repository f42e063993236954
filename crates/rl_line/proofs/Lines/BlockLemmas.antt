-- A text in parts: what one part has of it, and what a change of the part changes in it.
use Rattle.rl_line.proofs.Common.{Bool, IsUtf8, List, [], ap, append-nil, append_assoc, arith, bytes_eq, bytes_eq-Decides, drop, drop-append-add, drop-append-le, drop-drop, drop-set-lt, drop-take, drop_all, drop_more, false, get_or, get_or-drop, get_or-take, insert, insert_slice, is_utf8-from_IsUtf8, length, length-append, length-drop, length-take, nat_tests, not, refl, remove_range, set, slice_range, subst, suc, sym, take, take-add, take-append-add, take-append-drop, take-append-le, take-take, take_all, take_more_set, true, ℕ, ◌&&◌, ◌++◌, ◌+◌, ◌-◌, ◌<◌, ◌∙◌, ◌∷◌, ◌≡◌, ◌≤◌}
use Rattle.rl_base.specs.Text.{is_boundary, stands_at}
use Rattle.rl_line.specs.Blocks.{LiesIn, begins_character}
use Rattle.std.proofs.lemmas.List.{set_split, take_more}
use Rattle.std.proofs.lemmas.List.Concat.{flat_map-append}
use Rattle.std.specs.List.{flat_map}
use Rattle.std.specs.Prelude.{slice_index}

-- ---- a text between two others
module _ (a b c : List ℕ) (there : ℕ) where
  abbrev whole : List ℕ
  whole = a ++ (b ++ c)

  from_place : (n : ℕ) → n ≤ length b → drop (length a + n) whole ≡ drop n b ++ c
  from_place n le = drop-append-add a (b ++ c) n ∙ drop-append-le n b c le

  up_to : (n : ℕ) → n ≤ length b → take (length a + n) whole ≡ a ++ take n b
  up_to n le = take-append-add a (b ++ c) n ∙ ap (λ t. a ++ t) (take-append-le n b c le)

  stands_between : (r : List ℕ) → there ≤ length b → r ≡ take (length r) (drop there b) → r ≡ take (length r) (drop (length a + there) whole)
  stands_between r le is =
      let within : length r ≤ length (drop there b) = omega (arith, ap length is ∙ length-take (length r) (drop there b)) in
      is ∙ sym (ap (take (length r)) (from_place there le) ∙ take-append-le (length r) (drop there b) c within)

  remove_between : (n : ℕ) → there + n ≤ length b → remove_range whole (length a + there) (length a + there + n) ≡ a ++ (remove_range b there (there + n) ++ c)
  remove_between n le =
      let to : length a + there + n ≡ length a + (there + n) = omega arith in
      ap (λ t. t ++ drop (length a + there + n) whole) (up_to there (omega arith))
      ∙ ap (λ t. (a ++ take there b) ++ t) (ap (λ m. drop m whole) to ∙ from_place (there + n) le)
      ∙ append_assoc a (take there b) (drop (there + n) b ++ c)
      ∙ ap (λ t. a ++ t) (sym (append_assoc (take there b) (drop (there + n) b) c))

  insert_between : (s : List ℕ) → there ≤ length b → insert_slice whole (length a + there) s ≡ a ++ (insert_slice b there s ++ c)
  insert_between s le =
      ap (λ t. (t ++ s) ++ drop (length a + there) whole) (up_to there le)
      ∙ ap (λ t. ((a ++ take there b) ++ s) ++ t) (from_place there le)
      ∙ ap (λ t. t ++ (drop there b ++ c)) (append_assoc a (take there b) s)
      ∙ append_assoc a (take there b ++ s) (drop there b ++ c)
      ∙ ap (λ t. a ++ t) (sym (append_assoc (take there b ++ s) (drop there b) c))

-- ---- a part among others
module _ {X : Type 0} (f : X → List ℕ) (xs : List X) (k : ℕ) (x : X) (lt : k < length xs) (read : x ≡ get_or xs k x) where
  abbrev before : List ℕ
  before = flat_map f (take k xs)

  abbrev after : List ℕ
  after = flat_map f (drop (k + 1) xs)

  all_parts : flat_map f xs ≡ before ++ (f x ++ after)
  all_parts =
      ap (flat_map f) (sym (take-append-drop k xs)) ∙ flat_map-append f (take k xs) (drop k xs)
      ∙ ap (λ t. before ++ flat_map f t) (drop_more xs k x lt ∙ ap (λ y. y ∷ drop (k + 1) xs) (sym read))

  set_part : (y : X) → flat_map f (set xs k y) ≡ before ++ (f y ++ after)
  set_part y =
      let one : suc k ≡ k + 1 = omega arith in
      ap (flat_map f) (set_split xs k y lt) ∙ flat_map-append f (take k xs) (y ∷ drop (suc k) xs) ∙ ap (λ m. before ++ (f y ++ flat_map f (drop m xs))) one

  -- one more part after it
  add_part : (y z : X) → flat_map f (insert (set xs k y) (k + 1) z) ≡ before ++ ((f y ++ f z) ++ after)
  add_part y z =
      ap (λ t. flat_map f (t ++ z ∷ drop (k + 1) (set xs k y))) (take_more_set xs k y lt)
      ∙ ap (λ t. flat_map f ((take k xs ++ y ∷ []) ++ z ∷ t)) (drop-set-lt (k + 1) xs k y (omega arith))
      ∙ ap (flat_map f) (append_assoc (take k xs) (y ∷ []) (z ∷ drop (k + 1) xs))
      ∙ flat_map-append f (take k xs) (y ∷ z ∷ drop (k + 1) xs)
      ∙ ap (λ t. before ++ t) (sym (append_assoc (f y) (f z) after))

  -- the parts up to it
  pub one_more : flat_map f (take (k + 1) xs) ≡ before ++ f x
  one_more =
      ap (flat_map f) (take_more xs k x lt ∙ ap (λ y. take k xs ++ y ∷ []) (sym read)) ∙ flat_map-append f (take k xs) (x ∷ [])
      ∙ ap (λ t. before ++ t) (append-nil (f x))

  pub length_all : length (flat_map f xs) ≡ length before + length (f x) + length after
  length_all = omega (arith, ap length all_parts, length-append before (f x ++ after), length-append (f x) after)

  module _ (at there : ℕ) (lies : LiesIn f xs at k there) where
    pub within_part : (n : ℕ) → there + n ≤ length (f x) → at + n ≤ length (flat_map f xs)
    within_part n le = omega (arith, length_all, lies.place)

    pub run_part : (r : List ℕ) → there < length (f x) → r ≡ take (length r) (drop there (f x)) → r ≡ take (length r) (drop at (flat_map f xs))
    run_part r lt_x is =
        stands_between before (f x) after there r (omega arith) is
        ∙ ap (λ t. take (length r) (drop (length before + there) t)) (sym all_parts)
        ∙ ap (λ m. take (length r) (drop m (flat_map f xs))) (sym lies.place)

    pub cut_part : (n : ℕ) (y : X) → there + n ≤ length (f x) → f y ≡ remove_range (f x) there (there + n) → flat_map f (set xs k y) ≡ remove_range (flat_map f xs) at (at + n)
    cut_part n y le made =
        set_part y ∙ ap (λ t. before ++ (t ++ after)) made ∙ sym (remove_between before (f x) after there n le)
        ∙ ap (λ t. remove_range t (length before + there) (length before + there + n)) (sym all_parts)
        ∙ ap (λ m. remove_range (flat_map f xs) m (m + n)) (sym lies.place)

    put_into : (s t : List ℕ) → there ≤ length (f x) → t ≡ insert_slice (f x) there s → before ++ (t ++ after) ≡ insert_slice (flat_map f xs) at s
    put_into s t le made =
        ap (λ u. before ++ (u ++ after)) made ∙ sym (insert_between before (f x) after there s le)
        ∙ ap (λ u. insert_slice u (length before + there) s) (sym all_parts)
        ∙ ap (λ m. insert_slice (flat_map f xs) m s) (sym lies.place)

    pub put_part : (s : List ℕ) (y : X) → there ≤ length (f x) → f y ++ [] ≡ insert_slice (f x) there s → flat_map f (set xs k y) ≡ insert_slice (flat_map f xs) at s
    put_part s y le made = set_part y ∙ put_into s (f y) le (sym (append-nil (f y)) ∙ made)

    pub put_two : (s : List ℕ) (y z : X) → there ≤ length (f x) → f y ++ f z ≡ insert_slice (f x) there s → flat_map f (insert (set xs k y) (k + 1) z) ≡ insert_slice (flat_map f xs) at s
    put_two s y z le made = add_part y z ∙ put_into s (f y ++ f z) le made

-- a row in two
pub two_rows : {X : Type 0} (f : X → List ℕ) (n : ℕ) (xs : List X) → flat_map f (take n xs) ++ flat_map f (drop n xs) ≡ flat_map f xs
two_rows f n xs = sym (flat_map-append f (take n xs) (drop n xs)) ∙ ap (flat_map f) (take-append-drop n xs)

pub length-two_rows : {X : Type 0} (f : X → List ℕ) (n : ℕ) (xs : List X) → length (flat_map f (take n xs)) + length (flat_map f (drop n xs)) ≡ length (flat_map f xs)
length-two_rows f n xs = sym (length-append (flat_map f (take n xs)) (flat_map f (drop n xs))) ∙ ap length (two_rows f n xs)

-- ---- what is found at a place, in a run of bytes from there
module _ (text run : List ℕ) (at : ℕ) (is : run ≡ take (length run) (drop at text)) where
  pub run-within : at ≤ length text → at + length run ≤ length text
  run-within le = omega (arith, ap length is ∙ length-take (length run) (drop at text), length-drop at text)

  pub run-index : (i : ℕ) → i < length run → slice_index run i ≡ slice_index text (at + i)
  run-index i lt = ap (λ t. slice_index t i) is ∙ get_or-take (length run) (drop at text) i 0 lt ∙ get_or-drop at text i 0

  pub run-take : (n : ℕ) → n ≤ length run → take n run ≡ take n (drop at text)
  run-take n le = ap (take n) is ∙ take-take n (length run) (drop at text) le

  pub run-slice : (n : ℕ) → n ≤ length run → take n run ≡ slice_range text at (at + n)
  run-slice n le =
      let same : n ≡ (at + n) - at = omega arith in
      run-take n le ∙ ap (λ m. take m (drop at text)) same

-- a character begins where such a byte stands, or at the end
boundary-byte : (text : List ℕ) (i : ℕ) → i < length text → is_boundary text i ≡ begins_character (slice_index text i)
unfolding is_boundary
boundary-byte text i lt = grind (arith, nat_tests)

pub boundary-end : (text : List ℕ) (i : ℕ) → i ≡ length text → true ≡ is_boundary text i
unfolding is_boundary
boundary-end text i end = grind (arith, nat_tests)

pub boundary-past : (text : List ℕ) (i : ℕ) → length text < i → false ≡ is_boundary text i
unfolding is_boundary
boundary-past text i past = grind (arith, nat_tests)

pub ruleset boundaries = (boundary-end, boundary-past)

-- what stands somewhere, by its parts
pub stands-parts : (text s bytes : List ℕ) (at : ℕ) → IsUtf8 s → bytes ≡ s
    → (is_boundary text at && (is_boundary text (at + length bytes) && bytes_eq (slice_range text at (at + length bytes)) bytes)) ≡ stands_at text at s
unfolding stands_at
stands-parts text s bytes at u same =
    ap (λ t. is_boundary text at && (is_boundary text (at + length t) && bytes_eq (slice_range text at (at + length t)) t)) same
    ∙ sym (ap (λ b. b && (is_boundary text at && (is_boundary text (at + length s) && bytes_eq (slice_range text at (at + length s)) s))) (is_utf8-from_IsUtf8 s u))

module _ (text run : List ℕ) (at : ℕ) (is : run ≡ take (length run) (drop at text)) (inside : at < length text) where
  pub run-boundary : (i : ℕ) → i < length run → begins_character (slice_index run i) ≡ is_boundary text (at + i)
  run-boundary i lt =
      let within = run-within text run at is (omega arith) in
      ap begins_character (run-index text run at is i lt) ∙ sym (boundary-byte text (at + i) (omega arith))

  pub run-starts : 0 < length run → begins_character (slice_index run 0) ≡ is_boundary text at
  run-starts some = let none : at + 0 ≡ at = omega arith in run-boundary 0 some ∙ ap (is_boundary text) none

  -- a part that stands first in it
  pub run-stands : (s bytes : List ℕ) → IsUtf8 s → bytes ≡ s → length s < length run
      → (begins_character (slice_index run 0) && (begins_character (slice_index run (length bytes)) && bytes_eq (take (length bytes) run) bytes)) ≡ stands_at text at s
  run-stands s bytes u same lt =
      ap (λ t. begins_character (slice_index run 0) && (begins_character (slice_index run (length t)) && bytes_eq (take (length t) run) t)) same
      ∙ ap (λ b. b && (begins_character (slice_index run (length s)) && bytes_eq (take (length s) run) s)) (run-starts (omega arith))
      ∙ ap (λ b. is_boundary text at && (b && bytes_eq (take (length s) run) s)) (run-boundary (length s) lt)
      ∙ ap (λ t. is_boundary text at && (is_boundary text (at + length s) && bytes_eq t s)) (run-slice text run at is (length s) (omega arith))
      ∙ stands-parts text s s at u refl

-- ---- bytes that are compared a run at a time
module _ (text bytes : List ℕ) (at done n : ℕ) (within : done + n ≤ length bytes) where
  abbrev rest : List ℕ
  rest = drop at text

  between_is : (xs : List ℕ) (i m : ℕ) → slice_range xs i (i + m) ≡ take m (drop i xs)
  between_is xs i m = let same : (i + m) - i ≡ m = omega arith in ap (λ j. take j (drop i xs)) same

  next : take n (drop done rest) ≡ take n (drop (at + done) text)
  next = ap (take n) (drop-drop done at text)

  pub held_more : slice_range text at (at + done) ≡ take done bytes → take n (drop (at + done) text) ≡ slice_range bytes done (done + n)
      → slice_range text at (at + (done + n)) ≡ take (done + n) bytes
  held_more so_far more =
      between_is text at (done + n) ∙ take-add done n rest
      ∙ ap (λ t. t ++ take n (drop done rest)) (sym (between_is text at done) ∙ so_far)
      ∙ ap (λ t. take done bytes ++ t) (next ∙ more ∙ between_is bytes done n)
      ∙ sym (take-add done n bytes)

  pub held_all : slice_range text at (at + length bytes) ≡ bytes → take n (drop (at + done) text) ≡ slice_range bytes done (done + n)
  held_all same =
      let m : ℕ = length bytes - done in
      let len : length bytes ≡ done + m = omega arith in
      let cut : take m (drop done rest) ≡ drop done bytes = sym (drop-take done m rest) ∙ ap (λ j. drop done (take j rest)) (sym len) ∙ ap (drop done) (sym (between_is text at (length bytes)) ∙ same) in
      sym next ∙ sym (take-take n m (drop done rest) (omega arith)) ∙ ap (take n) cut ∙ sym (between_is bytes done n)

turn : (b : Bool) → not b ≡ false → b ≡ true
turn true h = refl
turn false h = cc

-- what a comparison of two runs tells
pub same_bytes : (r : Bool) (a b : List ℕ) → r ≡ not (bytes_eq a b) → r ≡ false → a ≡ b
same_bytes r a b is not_other = (bytes_eq-Decides a b).0 (turn (bytes_eq a b) (sym is ∙ not_other))

pub other_bytes : (r : Bool) (a b : List ℕ) → r ≡ not (bytes_eq a b) → r ≡ true → a ≡ b → ⊥
other_bytes r a b is other same = let both : true ≡ false = sym other ∙ is ∙ ap not ((bytes_eq-Decides a b).1 same) in absurd cc

pub not_same : (a b : List ℕ) → (a ≡ b → ⊥) → false ≡ bytes_eq a b
not_same a b differ = by (bytes_eq a b) refl
  where
    by : (r : Bool) → bytes_eq a b ≡ r → false ≡ r
    by false h = refl
    by true h = absurd (differ ((bytes_eq-Decides a b).0 h))

pub all_same : (text bytes : List ℕ) (at done : ℕ) → done ≡ length bytes → slice_range text at (at + done) ≡ take done bytes → true ≡ bytes_eq (slice_range text at (at + length bytes)) bytes
all_same text bytes at done end same =
    let whole : slice_range text at (at + length bytes) ≡ bytes =
    subst (λ d. slice_range text at (at + d) ≡ take d bytes) end same ∙ take_all (length bytes) bytes (omega arith) in
    sym ((bytes_eq-Decides (slice_range text at (at + length bytes)) bytes).1 whole)

-- ---- what is taken out, or put in, piece by piece
pub removed_more : (text : List ℕ) (at n m : ℕ) → at + n ≤ length text → remove_range (remove_range text at (at + n)) at (at + m) ≡ remove_range text at (at + (n + m))
removed_more text at n m within =
    let front : length (take at text) ≡ at = omega (arith, length-take at text) in
    let cut = remove_range text at (at + n) in
    let to : at + n + m ≡ at + (n + m) = omega arith in
    let none : at ≡ length (take at text) + 0 = omega (arith, front) in
    let some : at + m ≡ length (take at text) + m = omega (arith, front) in
    ap (λ i. take i cut ++ drop (at + m) cut) none ∙ ap (λ t. t ++ drop (at + m) cut) (take-append-add (take at text) (drop (at + n) text) 0 ∙ append-nil (take at text))
    ∙ ap (λ t. take at text ++ t) (ap (λ i. drop i cut) some ∙ drop-append-add (take at text) (drop (at + n) text) m ∙ drop-drop m (at + n) text ∙ ap (λ i. drop i text) to)

pub inserted_before : (text s t : List ℕ) (at : ℕ) → at ≤ length text → insert_slice (insert_slice text at t) at s ≡ insert_slice text at (s ++ t)
inserted_before text s t at within =
    let now = insert_slice text at t in
    let here : at ≡ length (take at text) + 0 = omega (arith, length-take at text) in
    let parts : now ≡ take at text ++ (t ++ drop at text) = append_assoc (take at text) t (drop at text) in
    let first : take at now ≡ take at text = ap (λ i. take i now) here ∙ ap (take (length (take at text) + 0)) parts ∙ take-append-add (take at text) (t ++ drop at text) 0 ∙ append-nil (take at text) in
    let last : drop at now ≡ t ++ drop at text = ap (λ i. drop i now) here ∙ ap (drop (length (take at text) + 0)) parts ∙ drop-append-add (take at text) (t ++ drop at text) 0 in
    ap (λ u. (u ++ s) ++ drop at now) first ∙ ap (λ u. (take at text ++ s) ++ u) last
    ∙ sym (append_assoc (take at text ++ s) t (drop at text)) ∙ ap (λ u. u ++ drop at text) (append_assoc (take at text) s t)

-- a block in two, with what is put into one of them
pub first_half : (s a b now piece : List ℕ) (half at : ℕ) → a ≡ take half s → now ≡ insert_slice a at piece → b ≡ drop half s → at ≤ half → half ≤ length s
    → now ++ b ≡ insert_slice s at piece
first_half s a b now piece half at front made rest le within =
    let here : 0 + at ≡ at = omega arith in
    let inside : at ≤ length (take half s) = omega (arith, length-take half s) in
    ap (λ t. t ++ b) (made ∙ ap (λ t. insert_slice t at piece) front) ∙ ap (λ t. insert_slice (take half s) at piece ++ t) rest
    ∙ sym (insert_between [] (take half s) (drop half s) at piece inside) ∙ ap (λ i. insert_slice (take half s ++ drop half s) i piece) here
    ∙ ap (λ t. insert_slice t at piece) (take-append-drop half s)

pub second_half : (s a b now piece : List ℕ) (half at : ℕ) → a ≡ take half s → b ≡ drop half s → now ≡ insert_slice b (at - half) piece → half ≤ at → at ≤ length s
    → a ++ now ≡ insert_slice s at piece
second_half s a b now piece half at front rest made le within =
    let there = at - half in
    let inside : there ≤ length (drop half s) = omega (arith, length-drop half s) in
    let here : length (take half s) + there ≡ at = omega (arith, length-take half s) in
    ap (λ t. t ++ now) front ∙ ap (λ t. take half s ++ t) (made ∙ ap (λ t. insert_slice t there piece) rest ∙ sym (append-nil (insert_slice (drop half s) there piece)))
    ∙ sym (insert_between (take half s) (drop half s) [] there piece inside)
    ∙ ap (λ t. insert_slice (take half s ++ t) (length (take half s) + there) piece) (append-nil (drop half s))
    ∙ ap (λ t. insert_slice t (length (take half s) + there) piece) (take-append-drop half s)
    ∙ ap (λ i. insert_slice s i piece) here

pub ruleset halves = (first_half, second_half)

pub inserted_none : (text bytes : List ℕ) (at : ℕ) → text ≡ insert_slice text at (drop (length bytes) bytes)
inserted_none text bytes at =
    sym (ap (insert_slice text at) (drop_all (length bytes) bytes (omega arith)) ∙ ap (λ t. t ++ drop at text) (append-nil (take at text)) ∙ take-append-drop at text)

pub length-inserted : (text s : List ℕ) (at : ℕ) → length (insert_slice text at s) ≡ length text + length s
length-inserted text s at =
    omega (arith, length-append (take at text ++ s) (drop at text), length-append (take at text) s, length-take at text, length-drop at text)

pub length-removed : (text : List ℕ) (at n : ℕ) → at + n ≤ length text → length (remove_range text at (at + n)) + n ≡ length text
length-removed text at n within = omega (arith, length-append (take at text) (drop (at + n) text), length-take at text, length-drop (at + n) text)
