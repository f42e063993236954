-- Steps of an iterator that shows what it has left, and the bytes of lists of pieces.
use Rattle.rl_base.proofs.Common.{true, ◌≡◌, ℕ, ◌+◌, ◌-◌, ◌≤◌, List, [], ◌∷◌, ◌++◌, map, reverse, length, take, drop, slice_range, Option, Some, None, refl, sym, ap, subst, ◌∙◌, arith, append_assoc, length-append, nat_tests, reverse-append, reverse-reverse, take-append-drop, drop_at, drop_all, length-map, length_push, IsCharBoundary-at_seam, IsCharBoundary-from_rest, concat-append, Yields, SkipsThenYields, YieldsFirstBy, concat, IsCharBoundary, IsUtf8, is_grapheme_break, GivesLast, clusters, bytes_in, next_pos, prev_pos}
use Rattle.unicode_segmentation.proofs.SegmentsLemmas.{concat-segments}

-- an iterator whose steps take from the front of the list that `shown` reads of its state
module _ {S A B : Type 0} (steps : S → Option A → S → Type 0) (view : A → B) (shown : S → List B) (gives : (s t : S) (r : Option A) → steps s r t → YieldsFirstBy view shown s r t) where
  -- what calls that gave xs left
  pub shown_after : (xs : List A) (s t : S) → Yields steps s xs t → shown s ≡ map view xs ++ shown t
  shown_after [] s t y = ap shown y
  shown_after (x ∷ xs) s t y = gives s y.0 (Some x) y.1 ∙ ap (λ l. view x ∷ l) (shown_after xs y.0 t y.2)

  -- what `nth` leaves
  pub shown_after_nth : (s u : S) (n : ℕ) (r : Option A) → SkipsThenYields steps s n r u → shown u ≡ drop (n + 1) (shown s)
  shown_after_nth s u n None h =
      let before = shown_after h.0 s h.1.0 h.1.1 in
      let end = gives h.1.0 u None h.1.2 in
      let all : length (shown s) ≤ n + 1 = omega (arith, h.2, ap length before, length-append (map view h.0) (shown h.1.0), ap length end.0, length-map h.0 view) in
      end.1 ∙ sym (drop_all (n + 1) (shown s) all)
  shown_after_nth s u n (Some x) h =
      let front = map view h.0 in
      let split = shown_after h.0 s h.1.0 h.1.1 ∙ ap (λ l. front ++ l) (gives h.1.0 u (Some x) h.1.2) ∙ sym (append_assoc front (view x ∷ []) (shown u)) in
      let len : length (front ++ view x ∷ []) ≡ n + 1 = omega (arith, h.2, length_push front (view x), length-map h.0 view) in
      sym (ap (drop (n + 1)) split ∙ drop_at (front ++ view x ∷ []) (shown u) (n + 1) len)

-- what one step leaves
pub shown_past_first : {S A B : Type 0} (view : A → B) (shown : S → List B) (s t : S) (r : Option A) → YieldsFirstBy view shown s r t → shown t ≡ drop 1 (shown s)
shown_past_first view shown s t None h = h.1 ∙ sym (ap (drop 1) h.0)
shown_past_first view shown s t (Some x) h = sym (ap (drop 1) h)

-- a step from the back is a step from the front of the list in reverse
pub first_from_last : {S A B : Type 0} (view : A → B) (left : S → List B) (s t : S) (r : Option A) → GivesLast view left s r t → YieldsFirstBy view (λ s. reverse (left s)) s r t
first_from_last view left s t None h = (ap reverse h.0, ap reverse h.1)
first_from_last view left s t (Some x) h = ap reverse h ∙ reverse-append (left t) (view x ∷ [])

pub bytes_in-append : (xs ys : List (List ℕ)) → bytes_in (xs ++ ys) ≡ bytes_in xs + bytes_in ys
bytes_in-append xs ys = ap length (concat-append xs ys) ∙ length-append (concat xs) (concat ys)

pub bytes_in-reverse : (xs : List (List ℕ)) → bytes_in (reverse xs) ≡ bytes_in xs
bytes_in-reverse [] = refl
bytes_in-reverse (x ∷ xs) =
    ap bytes_in (reverse-append (x ∷ []) xs) ∙ bytes_in-append (reverse xs) (x ∷ [])
    ∙ (omega (arith, bytes_in-reverse xs, bytes_in-append (x ∷ []) [], bytes_in-append (x ∷ []) xs))

-- the pieces that `nth` leaves follow those that it passed
pub pieces_past : (left pieces : List (List ℕ)) (n m : ℕ) → left ≡ drop (m + 1) pieces → m ≡ n - 1 → (n ≡ 0 → ⊥) → pieces ≡ take n pieces ++ left
pieces_past left pieces n m e same some =
    let count : m + 1 ≡ n = omega arith in
    sym (ap (λ l. take n pieces ++ l) (e ∙ ap (λ k. drop k pieces) count) ∙ take-append-drop n pieces)

-- the pieces in front of the last n, where those were taken from the back
pub front_of_pieces : (left pieces : List (List ℕ)) (n m : ℕ) → reverse left ≡ drop (m + 1) (reverse pieces) → m ≡ n - 1 → (n ≡ 0 → ⊥)
    → pieces ≡ left ++ reverse (take n (reverse pieces))
front_of_pieces left pieces n m e same some =
    let count : m + 1 ≡ n = omega arith in
    let back = take n (reverse pieces) in
    let split : back ++ reverse left ≡ reverse pieces =
    ap (λ l. back ++ l) (e ∙ ap (λ k. drop k (reverse pieces)) count) ∙ take-append-drop n (reverse pieces) in
    sym (reverse-reverse pieces) ∙ ap reverse (sym split) ∙ reverse-append back (reverse left) ∙ ap (λ l. l ++ reverse back) (reverse-reverse left)

-- the clusters of a text make up the text
pub concat-clusters : (text : List ℕ) → IsUtf8 text → concat (clusters text) ≡ text
concat-clusters text u = concat-segments (is_grapheme_break true) text u

pub next_pos-some : (text : List ℕ) (pos n : ℕ) → (n ≡ 0 → ⊥) → (pos ≡ length text → ⊥) → next_pos text pos n ≡ Some (pos + bytes_in (take n (clusters (drop pos text))))
next_pos-some text pos n some inside = grind (arith, nat_tests)

pub prev_pos-some : (text : List ℕ) (pos n : ℕ) → (n ≡ 0 → ⊥) → (pos ≡ 0 → ⊥) → prev_pos text pos n ≡ Some (pos - bytes_in (take n (reverse (clusters (take pos text)))))
prev_pos-some text pos n some inside = grind (arith, nat_tests)

pub bytes_in-clusters : (text : List ℕ) → IsUtf8 text → bytes_in (clusters text) ≡ length text
bytes_in-clusters text u = ap length (concat-clusters text u)

-- `&text[..n]`
pub slice_range-front : (n : ℕ) (text : List ℕ) → slice_range text 0 n ≡ take n text
slice_range-front n text = let same : n - 0 ≡ n = omega arith in ap (λ m. take m text) same

-- what stands after a place is cut where a text begins
pub IsCharBoundary-before_rest : (text : List ℕ) (pos place : ℕ) (front rest : List ℕ) → pos ≤ length text → drop pos text ≡ front ++ rest → place ≡ pos + length front
    → IsUtf8 rest → IsCharBoundary text place
IsCharBoundary-before_rest text pos place front rest within e same u =
    subst (IsCharBoundary text) (sym same) (IsCharBoundary-from_rest text pos (length front) within (IsCharBoundary-at_seam (drop pos text) front rest e u))
