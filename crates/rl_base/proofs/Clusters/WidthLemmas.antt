-- Sums of widths that are cut at the largest `u16`.
use Rattle.rl_base.proofs.Common.{◌≡◌, ℕ, ◌+◌, false, List, [], ◌∷◌, ◌++◌, length, drop, min, None, All, sum_by, refl, sym, ap, subst, ◌∙◌, arith, take-append-drop, nil_from_length, All-nil, All-cons, slice_split_none, slice_split_at, sum_by-cons, chars-nil, chars-append, chars_past_char, chars_from_encodes, slice_split, encode_utf8, chars, IsUtf8, NoCharPasses, NonePass, FindsChar, SplitsAroundMatch, str_width, char_columns, is_joiner}
use Rattle.unicode_segmentation.proofs.TextLemmas.{IsUtf8-after}

pub columns-char : (text rest : List ℕ) (c total : ℕ) → IsUtf8 text → text ≡ encode_utf8 c ++ rest
    → min (min (total + char_columns c) 65535 + sum_by char_columns (chars rest)) 65535 ≡ min (total + sum_by char_columns (chars text)) 65535
columns-char text rest c total u e =
    let sum = ap (sum_by char_columns) (chars_past_char text rest c u e) ∙ sum_by-cons char_columns c (chars rest) in
    omega (arith, sum)

pub columns-none : (text : List ℕ) → length text ≡ 0 → sum_by char_columns (chars text) ≡ 0
columns-none text e = ap (λ t. sum_by char_columns (chars t)) (nil_from_length text e) ∙ ap (sum_by char_columns) chars-nil

-- ---- parts between joiners
none_joins : (cs : List ℕ) → NonePass is_joiner cs → All (λ c. is_joiner c ≡ false) cs
none_joins [] h = All-nil _
none_joins (c ∷ cs) h = All-cons (λ x. is_joiner x ≡ false) c cs h.0 (none_joins cs h.1)

no_joiner : (text : List ℕ) → IsUtf8 text → NoCharPasses is_joiner text → All (λ c. is_joiner c ≡ false) (chars text)
no_joiner text u h = subst (All (λ c. is_joiner c ≡ false)) (chars_from_encodes h.0 text u h.1) (none_joins h.0 h.2)

-- a text without joiners is one part
pub columns-part : (text : List ℕ) (total : ℕ) → IsUtf8 text → FindsChar 0x200D text None
    → min (total + min (str_width false (chars text)) 65535) 65535 ≡ min (total + sum_by (str_width false) (slice_split is_joiner (chars text))) 65535
columns-part text total u h =
    let one = ap (sum_by (str_width false)) (slice_split_none is_joiner (chars text) (no_joiner text u h)) ∙ sum_by-cons (str_width false) (chars text) [] in
    omega (arith, one)

-- the first joiner ends the first part
pub columns-first_part : (text part more : List ℕ) (total : ℕ) → IsUtf8 text → IsUtf8 part → SplitsAroundMatch (FindsChar 0x200D) text part more
    → min (min (total + min (str_width false (chars part)) 65535) 65535 + sum_by (str_width false) (slice_split is_joiner (chars more))) 65535
    ≡ min (total + sum_by (str_width false) (slice_split is_joiner (chars text))) 65535
columns-first_part text part more total u v h =
    let i = h.0 in
    let joiner = h.2.1 in
    let split : text ≡ part ++ drop i text = sym (take-append-drop i text) ∙ ap (λ t. t ++ drop i text) (sym h.3) in
    let after : drop i text ≡ encode_utf8 0x200D ++ more = joiner.split ∙ ap (λ t. encode_utf8 0x200D ++ t) (sym h.4) in
    let cut : chars text ≡ chars part ++ 0x200D ∷ chars more =
    ap chars split ∙ chars-append part (drop i text) v ∙ ap (λ l. chars part ++ l) (chars_past_char (drop i text) more 0x200D (IsUtf8-after text part (drop i text) u v split) after) in
    let none = no_joiner part v (subst (NoCharPasses is_joiner) (sym h.3) h.2.0) in
    let sum = ap (sum_by (str_width false)) (ap (slice_split is_joiner) cut ∙ slice_split_at is_joiner (chars part) 0x200D (chars more) none refl)
    ∙ sum_by-cons (str_width false) (chars part) (slice_split is_joiner (chars more)) in
    omega (arith, sum)

-- the columns of what is left
pub ruleset columns = (columns-char, columns-none, columns-part, columns-first_part)
