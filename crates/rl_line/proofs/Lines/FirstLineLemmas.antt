-- The first line of a text, and of what stands after a place.
use Rattle.rl_line.proofs.Common.{Bool, IsCharBoundary, IsCharBoundary-before_ascii, IsCharBoundary-start, IsUtf8, List, [], ap, ap₂, arith, drop, end_of_line, eqb, eqb-true, false, get_or, is_newline, length, line_number, lines, onto_first, refl, slice_range, start_of_line, subst, suc, sym, take, text_of_line, true, zero, ℕ, ◌+◌, ◌-◌, ◌<◌, ◌∙◌, ◌∷◌, ◌≡◌}
use Rattle.memchr.specs.Find.{NoneBefore, Nowhere, Passes, is_byte}
use Rattle.rl_base.proofs.Clusters.ClusterLemmas.{slice_range-front}
use Rattle.rl_base.proofs.Texts.LineLemmas.{count_of_lines, end-from, lies, lines_some}
use Rattle.rl_line.proofs.Lines.LineReadLemmas.{EndsAt-start, ends_at}
use Rattle.std.proofs.lemmas.List.Splits.{slice_split-cons_no, slice_split-cons_yes}

-- the first line, where a byte is not a newline
first-onto : (b : ℕ) (bs part : List ℕ) → eqb b 10 ≡ false → text_of_line bs 0 ≡ part → text_of_line (b ∷ bs) 0 ≡ b ∷ part
first-onto b bs part other e =
    let some = lines_some bs in
    ap (λ ls. get_or ls 0 []) (slice_split-cons_no is_newline b bs other ∙ ap (λ ls. onto_first b ls) some.2)
    ∙ ap (λ l. b ∷ l) (sym (ap (λ ls. get_or ls 0 []) some.2) ∙ e)

-- the byte at the start passes, or not
first-cases : (b : ℕ) → (Passes (is_byte 10) (b ∷ []) 0 → ⊥) → eqb b 10 ≡ false
first-cases b h = from (eqb b 10) refl
  where
    from : (is : Bool) → eqb b 10 ≡ is → eqb b 10 ≡ false
    from true e = absurd (h e)
    from false e = e

first-found : (text : List ℕ) (n : ℕ) → n < length text → Nowhere (Passes (is_byte 10) text) 0 n → Passes (is_byte 10) text n → text_of_line text 0 ≡ take n text
first-found [] n l h p = absurd (omega arith)
first-found (b ∷ bs) zero l h p = ap (λ ls. get_or ls 0 []) (slice_split-cons_yes is_newline b bs p)
first-found (b ∷ bs) (suc n) l h p =
    first-onto b bs (take n bs) (first-cases b (h 0 (omega arith) (omega arith)))
    (first-found bs n (omega arith) (λ k from to. h (suc k) (omega arith) (omega arith)) p)

first-all : (text : List ℕ) → Nowhere (Passes (is_byte 10) text) 0 (length text) → text_of_line text 0 ≡ text
first-all [] h = refl
first-all (b ∷ bs) h =
    first-onto b bs bs (first-cases b (h 0 (omega arith) (omega arith))) (first-all bs (λ k from to. h (suc k) (omega arith) (omega arith)))

-- ---- the search for its newline
pub first_line-ended : (text : List ℕ) (n : ℕ) → NoneBefore (Passes (is_byte 10) text) 0 (length text) n → Passes (is_byte 10) text n → slice_range text 0 n ≡ text_of_line text 0
first_line-ended text n h p = slice_range-front n text ∙ sym (first-found text n h.high h.before p)

pub first_line-last : (text : List ℕ) → Nowhere (Passes (is_byte 10) text) 0 (length text) → text ≡ text_of_line text 0
first_line-last text h = sym (first-all text h)

pub first_line-boundary : (text : List ℕ) (n : ℕ) → n < length text → Passes (is_byte 10) text n → IsCharBoundary text n
first_line-boundary text n l p = IsCharBoundary-before_ascii text n (omega arith) (omega (arith, eqb-true (get_or text n 0) 10 p))

-- it stands at the start
pub first_line-at : (text : List ℕ) (i : ℕ) (part : List ℕ) → part ≡ text_of_line (drop i text) 0 → part ≡ slice_range text i (i + length part)
first_line-at text i part e =
    let rest = drop i text in
    let whole = lies rest 0 (omega (arith, count_of_lines rest)) in
    let width : i + length part - i ≡ length (text_of_line rest 0) = omega (arith, ap length e) in
    e ∙ sym whole.is ∙ ap (λ n. take n rest) (sym width)

-- ---- line k, from where it begins
module _ (text : List ℕ) (k start : ℕ) (small : k < length (lines text)) (is : start ≡ start_of_line text k) where
  -- it is the first of what stands after its start
  pub first-of_line : text_of_line (drop start text) 0 ≡ text_of_line text k
  first-of_line =
      let h = lies text k small in
      let some = lines_some (drop start text) in
      let number : line_number text start ≡ k = ap (line_number text) is ∙ h.number_start in
      let end = end-from text start some.0 some.1 (omega (arith, h.len, h.within)) some.2 in
      let first : text_of_line (drop start text) 0 ≡ some.0 = ap (λ ls. get_or ls 0 []) some.2 in
      let width : length some.0 ≡ length (text_of_line text k) = omega (arith, end, ap (end_of_line text) number) in
      let whole = lies (drop start text) 0 (omega (arith, count_of_lines (drop start text))) in
      sym whole.is ∙ ap (λ (l : List ℕ). take (length l) (drop start text)) first ∙ ap₂ (λ n i. take n (drop i text)) width is ∙ h.is

  pub IsCharBoundary-start_of_line : IsUtf8 text → IsCharBoundary text start
  IsCharBoundary-start_of_line u = from k is small
    where
      from : (k : ℕ) → start ≡ start_of_line text k → k < length (lines text) → IsCharBoundary text start
      from zero e l = subst (IsCharBoundary text) (sym e) (IsCharBoundary-start text u)
      from (suc j) e l =
          let one : suc j ≡ j + 1 = omega arith in
          let above = ends_at text j _ (omega (arith, count_of_lines text)) refl in
          subst (IsCharBoundary text) (above.start ∙ ap (start_of_line text) (sym one) ∙ sym e) (EndsAt-start text j _ above u)

pub ruleset first_lines = (first_line-ended, first_line-last, first_line-boundary)
