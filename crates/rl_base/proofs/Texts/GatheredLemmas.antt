-- Blanks before a text.
use Rattle.rl_base.proofs.Common.{◌≡◌, ℕ, ◌+◌, ◌<◌, ◌≤◌, zero, suc, List, [], ◌∷◌, ◌++◌, length, take, drop, replicate, get_or, IsUtf8, IsCharBoundary, String, Global, string_bytes, refl, sym, ap, subst, ◌∙◌, arith, append_assoc, take_at, drop_at, length-replicate, replicate-append-replicate, IsCharBoundary-start, IsCharBoundary-after_ascii, IsUtf8-string_bytes, take-append-add, drop-append-add, repeat, replace_range, insert_slice, BeginsBlank, length-take, take-take, get_or-take, take-replicate, get_or-replicate}

-- each of the first n bytes is a blank
blank-at : (text : List ℕ) (n i : ℕ) → BeginsBlank n text → i < n → (i < length text) × (get_or text i 0 ≡ 32)
blank-at text n i b l =
    let len : length (take n text) ≡ n = ap length b ∙ length-replicate n 32 in
    (omega (arith, len, length-take n text), sym (get_or-take n text i 0 l) ∙ ap (λ t. get_or t i 0) b ∙ get_or-replicate n i 32 0 l)

-- the text may be cut up to the last of them
boundary : (text : List ℕ) (n i : ℕ) → IsUtf8 text → BeginsBlank n text → i ≤ n → IsCharBoundary text i
boundary text n zero u b l = IsCharBoundary-start text u
boundary text n (suc i) u b l =
    let at = blank-at text n i b (omega arith) in
    subst (IsCharBoundary text) {x = i + 1} {y = suc i} (omega arith) (IsCharBoundary-after_ascii text i u at.0 (omega (arith, at.1)))

-- the same of a `String`, which is UTF-8
pub may_cut : (text : String Global) (n i : ℕ) → BeginsBlank n (string_bytes text) → i ≤ n → IsCharBoundary (string_bytes text) i
may_cut text n i b l = boundary (string_bytes text) n i (IsUtf8-string_bytes text) b l

-- fewer blanks
fewer : (text : List ℕ) (n i : ℕ) → BeginsBlank n text → i ≤ n → BeginsBlank i text
fewer text n i b l = sym (take-take i n text l) ∙ ap (take i) b ∙ take-replicate i n 32 l

-- the last blanks give way to a part
pub record Fronted (text part : List ℕ) (n i : ℕ) : Type 0 where
  pub blanks : BeginsBlank i (replace_range text i n part)
  pub text_is : drop i (replace_range text i n part) ≡ part ++ drop n text

pub fronted : (text part : List ℕ) (n i : ℕ) → BeginsBlank n text → i + length part ≡ n → Fronted text part n i
fronted text part n i b e =
    let len : length (take i text) ≡ i = ap length (fewer text n i b (omega arith)) ∙ length-replicate i 32 in
    let cut : replace_range text i n part ≡ take i text ++ (part ++ drop n text) = append_assoc (take i text) part (drop n text) in
    record {
      blanks = ap (take i) cut ∙ take_at (take i text) (part ++ drop n text) i len ∙ fewer text n i b (omega arith);
      text_is = ap (drop i) cut ∙ drop_at (take i text) (part ++ drop n text) i len;
    }

-- a blank, repeated
row-is : (m : ℕ) → repeat {A = ℕ} m (32 ∷ []) ≡ replicate m 32
row-is zero = refl
row-is (suc m) = ap (λ l. 32 ∷ l) (row-is m)

-- more blanks before a text
pub record Blanker (text now : List ℕ) (n m : ℕ) : Type 0 where
  pub blanks : BeginsBlank (n + m) now
  pub text_is : drop (n + m) now ≡ drop n text

pub blanker : (text now : List ℕ) (n m : ℕ) → BeginsBlank n text → now ≡ insert_slice text 0 (repeat m (32 ∷ [])) → Blanker text now n m
blanker text now n m b e =
    let row : List ℕ = replicate m 32 in
    let is : now ≡ row ++ text = e ∙ ap (λ l. l ++ text) (row-is m) in
    let len : n + m ≡ length row + n = sym (ap (λ k. k + n) (length-replicate m 32) ∙ (omega arith)) in
    record {
      blanks = ap (take (n + m)) is ∙ ap (λ k. take k (row ++ text)) len ∙ take-append-add row text n ∙ ap (λ l. row ++ l) b
          ∙ replicate-append-replicate m n 32 ∙ ap (λ k. replicate k 32) {x = m + n} {y = n + m} (omega arith);
      text_is = ap (drop (n + m)) is ∙ ap (λ k. drop k (row ++ text)) len ∙ drop-append-add row text n;
    }
