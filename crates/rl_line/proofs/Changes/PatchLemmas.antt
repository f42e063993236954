-- Where the characters begin in a text in which a part gave way to another.
use Rattle.rl_line.proofs.Common.{Bool, IsCharBoundary, IsCharBoundary-at_seam, IsUtf8, IsUtf8-append, IsUtf8-drop, List, ap, append_assoc, arith, common_steps, drop, drop-append-add, drop-append-le, drop_split, false, get_or-append_right, get_or_append_left, length, length-append, length-drop, length-take, length-take-le, nat_tests, refl, replace_range, slice_range, subst, sym, take, take-add, take-append-add, take-append-drop, take-append-le, true, ℕ, ◌++◌, ◌+◌, ◌-◌, ◌<◌, ◌∙◌, ◌≡◌, ◌≤◌}
use Rattle.rl_base.proofs.Texts.TextLemmas.{is_boundary-means, is_boundary-true}
use Rattle.rl_base.specs.Text.{is_boundary, stands_at}

-- a test that answers whether a character begins there
pub is_boundary-tested : (text : List ℕ) (i : ℕ) (b : Bool) → (b ≡ true → IsCharBoundary text i) × (IsCharBoundary text i → b ≡ true) → b ≡ is_boundary text i
is_boundary-tested text i true test = sym (is_boundary-true text i (test.0 refl))
is_boundary-tested text i false test = no (is_boundary text i) refl
  where
    no : (d : Bool) → is_boundary text i ≡ d → false ≡ d
    no false k = refl
    no true k = let t = test.1 (is_boundary-means text i k) in cc

-- in two texts, one after the other, a place in the first
boundary-inside : (front rest : List ℕ) (k : ℕ) → k < length front → is_boundary (front ++ rest) k ≡ is_boundary front k
unfolding is_boundary
boundary-inside front rest k lt = let same = get_or_append_left front rest 0 k lt in let more = length-append front rest in grind (arith, nat_tests)

-- or at its end
boundary-before : (front rest : List ℕ) (k : ℕ) → IsUtf8 rest → k ≤ length front → is_boundary (front ++ rest) k ≡ is_boundary front k
boundary-before front rest k u le = grind (arith, is_boundary-true, IsCharBoundary-at_seam, boundary-inside)

-- and one of the second
boundary-past : (front rest : List ℕ) (k : ℕ) → length front ≤ k → is_boundary (front ++ rest) k ≡ is_boundary rest (k - length front)
unfolding is_boundary
boundary-past front rest k le = let same = get_or-append_right front rest (length front) k 0 refl le in let more = length-append front rest in grind (arith, nat_tests)

module _ (text : List ℕ) (i j : ℕ) (s : List ℕ) (u : IsUtf8 text) (v : IsUtf8 s) (start : IsCharBoundary text i) (end : IsCharBoundary text j) where
  abbrev patched : List ℕ
  patched = replace_range text i j s

  front : length (take i text) ≡ i
  front = length-take-le i text start.0

  -- before the part
  pub patched-before : (k : ℕ) → k ≤ i → is_boundary patched k ≡ is_boundary text k
  patched-before k le =
      let within : k ≤ length (take i text) = omega (arith, front) in
      ap (λ t. is_boundary t k) (append_assoc (take i text) s (drop j text))
      ∙ boundary-before (take i text) (s ++ drop j text) k (IsUtf8-append s (drop j text) v (IsUtf8-drop text j u end)) within
      ∙ sym (boundary-before (take i text) (drop i text) k (IsUtf8-drop text i u start) within)
      ∙ ap (λ t. is_boundary t k) (take-append-drop i text)

  -- in the part
  pub patched-within : (k : ℕ) → i ≤ k → k - i ≤ length s → is_boundary patched k ≡ is_boundary s (k - i)
  patched-within k le within = grind (arith, common_steps, boundary-past, boundary-before, IsUtf8-drop)

  -- after the part
  pub patched-after : (k : ℕ) → i ≤ k → length s ≤ k - i → is_boundary patched k ≡ is_boundary text ((k - i) - length s + j)
  patched-after k le past =
      let len : length (take i text ++ s) ≡ i + length s = omega (arith, length-append (take i text) s, front) in
      let to : length (take j text) ≡ j = length-take-le j text end.0 in
      let there : ((k - i) - length s + j) - length (take j text) ≡ k - length (take i text ++ s) = omega (arith, len, to) in
      boundary-past (take i text ++ s) (drop j text) k (omega (arith, len))
      ∙ ap (is_boundary (drop j text)) (sym there)
      ∙ sym (boundary-past (take j text) (drop j text) ((k - i) - length s + j) (omega (arith, to)))
      ∙ ap (λ t. is_boundary t ((k - i) - length s + j)) (take-append-drop j text)

  -- what stands in the part
  module _ (k : ℕ) (le : i ≤ k) where
    abbrev there : ℕ
    there = k - i

    at_front : k ≡ length (take i text) + there
    at_front = omega (arith, front)

    parts : patched ≡ take i text ++ (s ++ drop j text)
    parts = append_assoc (take i text) s (drop j text)

    patched-take : there ≤ length s → take k patched ≡ take i text ++ take there s
    patched-take within =
        ap (λ n. take n patched) at_front ∙ ap (take (length (take i text) + there)) parts ∙ take-append-add (take i text) (s ++ drop j text) there
        ∙ ap (λ l. take i text ++ l) (take-append-le there s (drop j text) within)

    patched-drop : (n : ℕ) → there + n ≤ length s → drop (k + n) patched ≡ drop (there + n) s ++ drop j text
    patched-drop n within =
        let to : k + n ≡ length (take i text) + (there + n) = omega (arith, at_front) in
        ap (λ m. drop m patched) to ∙ ap (drop (length (take i text) + (there + n))) parts ∙ drop-append-add (take i text) (s ++ drop j text) (there + n)
        ∙ drop-append-le (there + n) s (drop j text) within

    -- a text stands in the whole where it stands in the part
    pub patched-stands : (t : List ℕ) → there + length t ≤ length s → stands_at s there t ≡ stands_at patched k t
    unfolding stands_at
    patched-stands t within =
        let n = length t in
        let first : is_boundary patched k ≡ is_boundary s there = patched-within k le (omega arith) in
        let more : (k + n) - i ≡ there + n = omega arith in
        let last : is_boundary patched (k + n) ≡ is_boundary s (there + n) = patched-within (k + n) (omega arith) (omega arith) ∙ ap (is_boundary s) more in
        let wide : n ≤ length (drop there s) = omega (arith, length-drop there s) in
        let none : k + 0 ≡ k = omega arith in
        let no : there + 0 ≡ there = omega arith in
        let rest : drop k patched ≡ drop there s ++ drop j text = subst (λ m. drop m patched ≡ drop there s ++ drop j text) none (subst (λ m. drop (k + 0) patched ≡ drop m s ++ drop j text) no (patched-drop 0 (omega arith))) in
        let here : (k + n) - k ≡ n = omega arith in
        let same : (there + n) - there ≡ n = omega arith in
        let bytes : slice_range patched k (k + n) ≡ slice_range s there (there + n) =
        ap (λ m. take m (drop k patched)) here ∙ ap (take n) rest ∙ take-append-le n (drop there s) (drop j text) wide ∙ ap (λ m. take m (drop there s)) (sym same) in
        sym (rw (first, last, bytes) refl)

    -- and gives way there as in the part
    pub patched-swap : (n : ℕ) (t : List ℕ) → there + n ≤ length s → replace_range text i j (replace_range s there (there + n) t) ≡ replace_range patched k (k + n) t
    patched-swap n t within = grind (arith, common_steps, patched-take, patched-drop)

-- how long it is at most
pub length-replaced : (text : List ℕ) (i j : ℕ) (s : List ℕ) → i ≤ j → length (replace_range text i j s) ≤ length text + length s
length-replaced text i j s le = grind (arith, length-append, length-take, length-drop)

-- more of the text in the part leaves the whole
pub widened-down : (text : List ℕ) (a i j : ℕ) (s : List ℕ) → a ≤ i → replace_range text a j (slice_range text a i ++ s) ≡ replace_range text i j s
widened-down text a i j s le =
    let to : a + (i - a) ≡ i = omega arith in
    ap (λ l. l ++ drop j text) (sym (append_assoc (take a text) (slice_range text a i) s) ∙ ap (λ l. l ++ s) (sym (take-add a (i - a) text) ∙ ap (λ n. take n text) to))

pub widened-up : (text : List ℕ) (i j k : ℕ) (s : List ℕ) → j ≤ k → replace_range text i k (s ++ slice_range text j k) ≡ replace_range text i j s
widened-up text i j k s le =
    ap (λ l. l ++ drop k text) (sym (append_assoc (take i text) s (slice_range text j k))) ∙ append_assoc (take i text ++ s) (slice_range text j k) (drop k text)
    ∙ ap (λ l. (take i text ++ s) ++ l) (sym (drop_split text j k le))

-- past what a text can be long, none begins
pub boundary-beyond : (text : List ℕ) (k : ℕ) → length text < k → is_boundary text k ≡ false
unfolding is_boundary
boundary-beyond text k lt = grind (arith, nat_tests)

pub ruleset widened = (widened-down, widened-up)
