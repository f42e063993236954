-- What begins with an escape, and what does not.
use Rattle.rl_session.proofs.Common.{arith, ◌≡◌, ◌≢◌, ℕ, ◌<◌, List, [], ◌∷◌, ◌++◌, Some, None, refl, sym, ap, ◌∙◌, append_assoc, inl, inr, ◌⊎◌, encode_utf8, codes, encode_same, encode_ascii, letter_of, NamesChar, Escapes, letter, braced, BeginsEscape, BeginsNoEscape}
use Rattle.rl_session.proofs.Scripts.SplitLemmas.{Lacks, Lacks-none, same_parts}
use Rattle.rl_session.proofs.Scripts.SpellingLemmas.{digits-Lacks, letter-ascii}

-- braces

pub braces : (bytes inner digits others : List ℕ) (c : ℕ) → bytes ≡ 123 ∷ inner → inner ≡ digits ++ 125 ∷ others → NamesChar digits c → BeginsEscape (117 ∷ bytes) c others
braces bytes inner digits others c e f n = record {
  code = codes "u{" ++ digits ++ codes "}";
  stands = braced n;
  is = ap (λ l. 117 ∷ l) (e ∙ ap (λ l. 123 ∷ l) (f ∙ sym (append_assoc digits (125 ∷ []) others)));
}

-- an escape that begins with a u is one in braces
in_braces : (bytes code others : List ℕ) (c : ℕ) → Escapes code c → 117 ∷ bytes ≡ code ++ others
    → (digits : List ℕ) × NamesChar digits c × (bytes ≡ 123 ∷ (digits ++ 125 ∷ others))
in_braces bytes code others c (letter {b = b} h) e = grind (arith)
in_braces bytes code others c (braced {digits = digits} n) e = grind (arith, append_assoc)

pub no_brace : (bytes : List ℕ) → ((inner : List ℕ) → bytes ≢ 123 ∷ inner) → BeginsNoEscape (117 ∷ bytes)
no_brace bytes h c others e = let found = in_braces bytes e.code others c e.stands e.is in h _ found.2

pub not_closed : (bytes inner : List ℕ) → bytes ≡ 123 ∷ inner → Lacks 125 inner → BeginsNoEscape (117 ∷ bytes)
not_closed bytes inner is h c others e = grind (arith, in_braces, Lacks-none)

pub not_named : (bytes inner digits more : List ℕ) → bytes ≡ 123 ∷ inner → inner ≡ digits ++ 125 ∷ more → Lacks 125 digits
    → ((c : ℕ) → NamesChar digits c → ⊥) → BeginsNoEscape (117 ∷ bytes)
not_named bytes inner digits more is parts h none c others e = grind (arith, in_braces, same_parts, digits-Lacks)

-- the character after the backslash

pub after_u : (bytes rest : List ℕ) (c : ℕ) → bytes ≡ encode_utf8 c ++ rest → c ≡ 117 → bytes ≡ 117 ∷ rest
after_u bytes rest c e is = e ∙ ap (λ l. l ++ rest) (ap encode_utf8 is ∙ encode_ascii 117 (omega arith))

pub by_letter : (bytes rest : List ℕ) (b c : ℕ) → bytes ≡ encode_utf8 b ++ rest → letter_of b ≡ Some c → BeginsEscape bytes c rest
by_letter bytes rest b c e h = record {
  code = b ∷ [];
  stands = letter h;
  is = e ∙ ap (λ l. l ++ rest) (encode_ascii b (letter-ascii b c h));
}

-- the first byte of an escape is a letter, or a u
head_of : (code others : List ℕ) (c : ℕ) → Escapes code c → (b : ℕ) × (tail : List ℕ) × (b < 128) × (code ++ others ≡ b ∷ tail) × ((b ≡ 117) ⊎ (letter_of b ≡ Some c))
head_of code others c (letter {b = b} h) = (b, others, letter-ascii b c h, refl, inr h)
head_of code others c (braced n) = (117, _, omega arith, refl, inl refl)

pub no_letter : (bytes rest : List ℕ) (b : ℕ) → bytes ≡ encode_utf8 b ++ rest → b ≢ 117 → letter_of b ≡ None → BeginsNoEscape bytes
no_letter bytes rest b e u none c others h =
    let head = head_of h.code others c h.stands in
    let first : encode_utf8 b ++ rest ≡ encode_utf8 head.0 ++ head.1 = sym e ∙ h.is ∙ head.3 ∙ ap (λ l. l ++ head.1) (sym (encode_ascii head.0 head.2)) in
    let same : b ≡ head.0 = (encode_same b head.0 rest head.1 first).0 in
    elim head.4 [ inl is ↦ u (same ∙ is) | inr is ↦ (let both : None ≡ Some c = sym none ∙ ap letter_of same ∙ is in absurd cc) ]
