-- One text at most is spelled by given bytes, and by which parts.
use Rattle.rl_session.proofs.Common.{nat_tests, and_parts, arith, ◌≡◌, ◌≢◌, ℕ, ◌+◌, ◌*◌, ◌<◌, true, List, [], ◌∷◌, ◌++◌, length, get_or, Option, Some, None, refl, sym, ap, subst, ◌∙◌, append_assoc, append-nil, length-append, encode_utf8, option_and_then, MatchOption, Bor, IsUtf8, IsScalar, encode_same, encode_ascii, inside_one, length-encode, len_utf8_bounds, cons_from_encodes, append_cancel_left, hex_digit, hex_from, letter_of, Escapes, Spells, SpellsChar, letter, braced, plain, BeginsEscape, BeginsNoEscape, BeginsChar, SpellsNothing, SpellsNoChar}
use lib.Utf8.{scalar, scalars}
use Rattle.rl_session.proofs.Scripts.SplitLemmas.{Lacks, Lacks-by_index, same_parts}
use Rattle.rl_session.specs.Spelling.{nothing, escape}
use Rattle.rl_session.specs.Parsing.{Begins}

-- parts that follow each other

pub Begins-then : (bytes s middle t others : List ℕ) → Begins bytes s middle → Begins middle t others → Begins bytes (s ++ t) others
Begins-then bytes s middle t others p q = grind (arith, append_assoc)

-- plain bytes

plain-on : (xs bytes text : List ℕ) → Lacks 92 xs → Spells bytes text → Spells (xs ++ bytes) (xs ++ text)
plain-on [] bytes text h s = s
plain-on (x ∷ xs) bytes text h s = plain h.0 (plain-on xs bytes text h.1 s)

-- after a plain byte stands what spells the text after that byte
plain-tail : {b : ℕ} {bytes text : List ℕ} → b ≢ 92 → Spells (b ∷ bytes) text → (more : List ℕ) × Spells bytes more × (text ≡ b ∷ more)
plain-tail n (plain {text = more} m s) = (more, s, refl)
plain-tail n (escape e s) = absurd (n refl)

plain-only : (xs bytes text : List ℕ) → Lacks 92 xs → Spells (xs ++ bytes) text → (more : List ℕ) × Spells bytes more × (text ≡ xs ++ more)
plain-only [] bytes text h s = (text, s, refl)
plain-only (x ∷ xs) bytes text h s =
    let one : (more : List ℕ) × Spells (xs ++ bytes) more × (text ≡ x ∷ more) = plain-tail h.0 s in
    let two : (more : List ℕ) × Spells bytes more × (one.0 ≡ xs ++ more) = plain-only xs bytes one.0 h.1 one.1 in
    (two.0, two.1, one.2 ∙ ap (λ t. x ∷ t) two.2)

pub Begins-plain : (xs bytes : List ℕ) → Lacks 92 xs → Begins (xs ++ bytes) xs bytes
Begins-plain xs bytes h = record { on = λ more s. plain-on xs bytes more h s; only = λ whole s. plain-only xs bytes whole h s }

pub Spells-plain : (xs : List ℕ) → Lacks 92 xs → Spells xs xs
Spells-plain [] h = nothing
Spells-plain (x ∷ xs) h = plain h.0 (Spells-plain xs h.1)

-- escapes

pub letter-ascii : (b c : ℕ) → letter_of b ≡ Some c → b < 128
letter-ascii b c h = grind (arith, nat_tests)

letter-scalar : (b c : ℕ) → letter_of b ≡ Some c → IsScalar c
letter-scalar b c h = grind (arith, nat_tests)

escape-scalar : {code : List ℕ} {c : ℕ} → Escapes code c → IsScalar c
escape-scalar (letter {b = b} {c = c} h) = letter-scalar b c h
escape-scalar (braced h) = h.is

digit-no_brace : (f : ℕ → Option ℕ) (b c : ℕ) → option_and_then f (hex_digit b) ≡ Some c → b ≢ 125
digit-no_brace f b c h e = let no : None ≡ Some c = subst (λ x. option_and_then f (hex_digit x) ≡ Some c) e h in absurd cc

digit-then : (f : ℕ → Option ℕ) (o : Option ℕ) (c : ℕ) → option_and_then f o ≡ Some c → (d : ℕ) × (f d ≡ Some c)
digit-then f None c h = absurd cc
digit-then f (Some d) c h = (d, h)

-- a closing brace is no digit
pub digits-Lacks : (n : ℕ) (digits : List ℕ) (c : ℕ) → hex_from n digits ≡ Some c → Lacks 125 digits
digits-Lacks n [] c h = tt
digits-Lacks n (b ∷ bs) c h =
    let on : (d : ℕ) × (hex_from (n * 16 + d) bs ≡ Some c) = digit-then (λ d. hex_from (n * 16 + d) bs) (hex_digit b) c h in
    (digit-no_brace (λ d. hex_from (n * 16 + d) bs) b c h, digits-Lacks (n * 16 + on.0) bs c on.1)

-- two escapes that begin the same bytes are one
two_escapes : (code other rest more : List ℕ) (c d : ℕ) → Escapes code c → Escapes other d → code ++ rest ≡ other ++ more → (c ≡ d) × (rest ≡ more)
two_escapes code other rest more c d (letter {b = a} p) (letter {b = b} q) e = grind (arith)
two_escapes code other rest more c d (letter {b = a} p) (braced q) e = grind (arith)
two_escapes code other rest more c d (braced p) (letter {b = b} q) e = grind (arith)
two_escapes code other rest more c d (braced {digits = xs} p) (braced {digits = ys} q) e = grind (arith, same_parts, digits-Lacks, append_assoc)

BeginsEscape-one : (bytes rest more : List ℕ) (c d : ℕ) → BeginsEscape bytes c rest → BeginsEscape bytes d more → (c ≡ d) × (rest ≡ more)
BeginsEscape-one bytes rest more c d p q = two_escapes p.code q.code rest more c d p.stands q.stands (sym p.is ∙ q.is)

-- a backslash begins an escape, and what follows it spells the rest
slash-rest : {bytes text : List ℕ} → Spells (92 ∷ bytes) text
    → (c : ℕ) × (others : List ℕ) × (more : List ℕ) × BeginsEscape bytes c others × Spells others more × (text ≡ encode_utf8 c ++ more)
slash-rest (plain n s) = absurd (n refl)
slash-rest (escape {code = code} {bytes = others} {text = more} {c = c} e s) = (c, others, more, record { code = code; stands = e; is = refl }, s, refl)

escape-only : (bytes others whole : List ℕ) (c : ℕ) → BeginsEscape bytes c others → Spells (92 ∷ bytes) whole
    → (more : List ℕ) × Spells others more × (whole ≡ encode_utf8 c ++ more)
escape-only bytes others whole c p s =
    let found = slash-rest s in
    let one : (found.0 ≡ c) × (found.1 ≡ others) = BeginsEscape-one bytes found.1 others found.0 c found.3 p in
    (found.2, subst (λ o. Spells o found.2) one.1 found.4, found.5 ∙ ap (λ d. encode_utf8 d ++ found.2) one.0)

pub Begins-escape : (bytes others : List ℕ) (c : ℕ) → BeginsEscape bytes c others → BeginsChar (92 ∷ bytes) c others
Begins-escape bytes others c p = (
  escape-scalar p.stands,
  record {
    on = λ more s. subst (λ b. Spells (92 ∷ b) (encode_utf8 c ++ more)) (sym p.is) (escape p.stands s);
    only = λ whole s. escape-only bytes others whole c p s;
  },
)

pub no_escape : (bytes : List ℕ) → BeginsNoEscape bytes → SpellsNothing (92 ∷ bytes)
no_escape bytes none text s = let found = slash-rest s in none found.0 found.1 found.3

-- one text at most

nothing-one : {bytes text : List ℕ} → Spells bytes text → bytes ≡ [] → [] ≡ text
nothing-one nothing e = refl
nothing-one (plain n s) e = absurd cc
nothing-one (escape p s) e = absurd cc

pub Spells-one : (bytes text other : List ℕ) → Spells bytes text → Spells bytes other → text ≡ other
Spells-one bytes text other nothing t = nothing-one t refl
Spells-one bytes text other (plain {b = b} {text = more} n s) t =
    let on : (m : List ℕ) × Spells _ m × (other ≡ b ∷ m) = plain-tail n t in
    ap (λ l. b ∷ l) (Spells-one _ more on.0 s on.1) ∙ sym on.2
Spells-one bytes text other (escape {code = code} {bytes = others} {text = more} {c = c} e s) t =
    let on = escape-only (code ++ others) others other c (record { code = code; stands = e; is = refl }) t in
    ap (λ l. encode_utf8 c ++ l) (Spells-one others more on.0 s on.1) ∙ sym on.2

-- a text of one character

empty-none : (c : ℕ) (l : List ℕ) → encode_utf8 c ++ l ≡ [] → ⊥
empty-none c l e =
    let no : length (encode_utf8 c ++ l) ≡ 0 = ap length e in
    let some = len_utf8_bounds c in
    omega (arith, simp (length-append, length-encode) at no)

-- only nothing spells the empty text
empty-only : {bytes text : List ℕ} → Spells bytes text → text ≡ [] → bytes ≡ []
empty-only nothing e = refl
empty-only (plain n s) e = absurd cc
empty-only (escape {text = more} {c = c} p s) e = absurd (empty-none c more e)

-- a character's bytes are plain, but a backslash
char-Lacks : (c : ℕ) → c ≢ 92 → Lacks 92 (encode_utf8 c)
char-Lacks c n =
    Lacks-by_index 92 (encode_utf8 c)
    (λ i l e. let small : get_or (encode_utf8 c) i 0 < 128 = omega arith in
    n (inside_one c [] (encode_utf8 c) i (sym (append-nil (encode_utf8 c))) l small ∙ e))

pub Begins-char : (bytes others : List ℕ) (c : ℕ) → IsScalar c → c ≢ 92 → bytes ≡ encode_utf8 c ++ others → BeginsChar bytes c others
Begins-char bytes others c is n e = (is, subst (λ b. Begins b (encode_utf8 c) others) (sym e) (Begins-plain (encode_utf8 c) others (char-Lacks c n)))

pub char-whole : (bytes others : List ℕ) (c : ℕ) → BeginsChar bytes c others → others ≡ [] → SpellsChar bytes c
char-whole bytes others c h e =
    let spells : Spells others [] = subst (λ l. Spells l []) (sym e) nothing in
    (h.0, subst (λ t. Spells bytes t) (append-nil (encode_utf8 c)) (h.1.on [] spells))

pub char-more : (bytes others : List ℕ) (c : ℕ) → BeginsChar bytes c others → others ≢ [] → SpellsNoChar bytes
char-more bytes others c h n d s =
    let on : (more : List ℕ) × Spells others more × (encode_utf8 d ≡ encode_utf8 c ++ more) = h.1.only (encode_utf8 d) s.1 in
    let whole : encode_utf8 d ++ [] ≡ encode_utf8 c ++ on.0 = append-nil (encode_utf8 d) ∙ on.2 in
    let same : d ≡ c = (encode_same d c [] on.0 whole).0 in
    let left : [] ≡ on.0 = append_cancel_left (encode_utf8 c) [] on.0 (subst (λ x. encode_utf8 x ++ [] ≡ encode_utf8 c ++ on.0) same whole) in
    n (empty-only on.1 (sym left))

-- where nothing stands, no character does
pub no_char : (bytes : List ℕ) → bytes ≡ [] → SpellsNoChar bytes
no_char bytes e c s = empty-none c [] (append-nil (encode_utf8 c) ∙ sym (nothing-one s.1 e))

pub no_escaped_char : (bytes after : List ℕ) → bytes ≡ 92 ∷ after → BeginsNoEscape after → SpellsNoChar bytes
no_escaped_char bytes after e none c s = no_escape after none (encode_utf8 c) (subst (λ b. Spells b (encode_utf8 c)) e s.1)

pub escaped_char : (bytes after : List ℕ) (r : Option (ℕ × Bor (List ℕ))) → bytes ≡ 92 ∷ after
    → MatchOption r (BeginsNoEscape after) (λ found. BeginsEscape after found.0 found.1.now)
    → MatchOption r (SpellsNoChar bytes) (λ found. BeginsChar bytes found.0 found.1.now)
escaped_char bytes after None e h = no_escaped_char bytes after e h
escaped_char bytes after (Some found) e h = subst (λ b. BeginsChar b found.0 found.1.now) (sym e) (Begins-escape after found.1.now found.0 h)

-- a character of a text is a scalar value
pub IsScalar-first : (bytes rest : List ℕ) (c : ℕ) → IsUtf8 bytes → bytes ≡ encode_utf8 c ++ rest → IsScalar c
IsScalar-first bytes rest c u e =
    let parts = cons_from_encodes u.0 rest c (u.1.1 ∙ e) in
    (and_parts (scalar c) (scalars parts.0) (subst (λ l. scalars l ≡ true) parts.1 u.1.0)).0

pub not_slash : (bytes rest : List ℕ) (c : ℕ) → bytes ≡ encode_utf8 c ++ rest → ((more : List ℕ) → bytes ≢ 92 ∷ more) → c ≢ 92
not_slash bytes rest c e n is = n rest (e ∙ ap (λ l. l ++ rest) (ap encode_utf8 is ∙ encode_ascii 92 (omega arith)))

-- the loop over the plain parts

pub read_all : (bytes : List ℕ) → Begins bytes [] bytes
read_all bytes = record { on = λ more s. s; only = λ whole s. (whole, s, refl) }

pub read_on : (bytes text rest xs after : List ℕ) (c : ℕ) (others : List ℕ) → Begins bytes text rest → rest ≡ xs ++ 92 ∷ after → Lacks 92 xs
    → BeginsEscape after c others → Begins bytes ((text ++ xs) ++ encode_utf8 c) others
read_on bytes text rest xs after c others b e h p =
    let on : Begins rest xs (92 ∷ after) = subst (λ l. Begins l xs (92 ∷ after)) (sym e) (Begins-plain xs (92 ∷ after) h) in
    Begins-then bytes (text ++ xs) (92 ∷ after) (encode_utf8 c) others (Begins-then bytes text rest xs (92 ∷ after) b on) (Begins-escape after others c p).1

pub read_none : (bytes text rest xs after : List ℕ) → Begins bytes text rest → rest ≡ xs ++ 92 ∷ after → Lacks 92 xs → BeginsNoEscape after → SpellsNothing bytes
read_none bytes text rest xs after b e h none whole s = grind (arith, plain-only, no_escape)

pub read_end : (bytes text rest : List ℕ) → Begins bytes text rest → Lacks 92 rest → Spells bytes (text ++ rest)
read_end bytes text rest b h = b.on rest (Spells-plain rest h)

-- what stands for something is not nothing, and stands for a text that is not empty

pub some_text : (bytes text : List ℕ) → Spells bytes text → 0 < length bytes → 0 < length text
some_text bytes [] s h =
    let none : length bytes ≡ 0 = ap length (empty-only s refl) in omega (arith, h)
some_text bytes (b ∷ bs) s h = omega arith

pub read_some : (bytes text rest : List ℕ) → Begins bytes text rest → 0 < length rest → 0 < length bytes
read_some [] text rest b h =
    let one : (more : List ℕ) × Spells rest more × ([] ≡ text ++ more) = b.only [] nothing in
    let none : length text + length one.0 ≡ 0 = sym (length-append text one.0) ∙ ap length (sym one.2) in
    let some = some_text rest one.0 one.1 h in
    omega (arith, none, some)
read_some (x ∷ xs) text rest b h = omega arith

pub SpellsChar-one : {bytes : List ℕ} {c d : ℕ} → SpellsChar bytes c → SpellsChar bytes d → c ≡ d
SpellsChar-one {bytes = bytes} {c = c} {d = d} p q =
    (encode_same c d [] [] (ap (λ l. l ++ []) (Spells-one bytes (encode_utf8 c) (encode_utf8 d) p.1 q.1))).0
