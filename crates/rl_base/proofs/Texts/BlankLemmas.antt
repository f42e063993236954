-- The blanks of the standard library are White_Space.
use Rattle.rl_base.proofs.Common.{◌≡◌, ℕ, Bool, true, false, List, [], ◌∷◌, ◌++◌, reverse, length, refl, sym, ap, ◌∙◌, arith, nat_tests, reverse-append, length-reverse, cond, ◌&&◌, ◌==◌, chars, encode_utf8_all, skip_leading_whitespace, drop_trailing_whitespace, is_white_space, past_blanks, without_leading_blanks, without_trailing_blanks}
use Rattle.std.specs.Str.{trim_start, trim_end}
use Rattle.ucd_props.proofs.StdLemmas.{is_white_space-std}

skip-leading : (cs : List ℕ) → skip_leading_whitespace cs ≡ past_blanks cs
skip-leading [] = refl
skip-leading (c ∷ cs) =
    ap (λ (b : Bool). cond b (skip_leading_whitespace cs) (c ∷ cs)) (is_white_space-std c)
    ∙ ap (λ (l : List ℕ). cond (is_white_space c) l (c ∷ cs)) (skip-leading cs)

not_empty : (x : ℕ) (xs : List ℕ) → (length (x ∷ xs) == 0) ≡ false
not_empty x xs = grind (arith, nat_tests)

-- one more character at the end is left out where all before it are blanks, and it is one itself
past-push_by : (b : Bool) (x c : ℕ) (xs rest : List ℕ) → past_blanks (xs ++ c ∷ []) ≡ cond (length rest == 0) (past_blanks (c ∷ [])) (rest ++ c ∷ [])
    → cond b (past_blanks (xs ++ c ∷ [])) (x ∷ (xs ++ c ∷ []))
    ≡ cond (length (cond b rest (x ∷ xs)) == 0) (past_blanks (c ∷ [])) (cond b rest (x ∷ xs) ++ c ∷ [])
past-push_by true x c xs rest e = e
past-push_by false x c xs rest e = sym (ap (λ (b : Bool). cond b (past_blanks (c ∷ [])) ((x ∷ xs) ++ c ∷ [])) (not_empty x xs))

past-push : (xs : List ℕ) (c : ℕ) → past_blanks (xs ++ c ∷ []) ≡ cond (length (past_blanks xs) == 0) (past_blanks (c ∷ [])) (past_blanks xs ++ c ∷ [])
past-push [] c = refl
past-push (x ∷ xs) c = past-push_by (is_white_space x) x c xs (past_blanks xs) (past-push xs c)

-- the same seen from the other end
turned-push : (b : Bool) (c : ℕ) (rest : List ℕ)
    → reverse (cond (length rest == 0) (cond b [] (c ∷ [])) (rest ++ c ∷ [])) ≡ cond (b && (length (reverse rest) == 0)) [] (c ∷ reverse rest)
turned-push true c [] = refl
turned-push false c [] = refl
turned-push true c (x ∷ xs) = grind (arith, not_empty x xs, length-reverse (x ∷ xs), reverse-append (x ∷ xs) (c ∷ []))
turned-push false c (x ∷ xs) = grind (arith, not_empty x xs, length-reverse (x ∷ xs), reverse-append (x ∷ xs) (c ∷ []))

drop-trailing : (cs : List ℕ) → drop_trailing_whitespace cs ≡ reverse (past_blanks (reverse cs))
drop-trailing [] = refl
drop-trailing (c ∷ cs) =
    ap (λ (b : Bool). cond (b && (length (drop_trailing_whitespace cs) == 0)) [] (c ∷ drop_trailing_whitespace cs)) (is_white_space-std c)
    ∙ ap (λ (l : List ℕ). cond (is_white_space c && (length l == 0)) [] (c ∷ l)) (drop-trailing cs)
    ∙ sym (ap (λ (l : List ℕ). reverse (past_blanks l)) (reverse-append (c ∷ []) cs) ∙ ap reverse (past-push (reverse cs) c)
    ∙ turned-push (is_white_space c) c (past_blanks (reverse cs)))

pub trim_start-blanks : (text : List ℕ) → trim_start text ≡ without_leading_blanks text
unfolding trim_start
trim_start-blanks text = ap encode_utf8_all (skip-leading (chars text))

pub trim_end-blanks : (text : List ℕ) → trim_end text ≡ without_trailing_blanks text
unfolding trim_end
trim_end-blanks text = ap encode_utf8_all (drop-trailing (chars text))

-- what `blanks_are_white_space` says
pub ruleset blanks = (is_white_space-std, trim_start-blanks, trim_end-blanks)
