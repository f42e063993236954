-- The plan of an edit of a word, by its cases.
use Rattle.rl_line.proofs.Common.{All, All-head, Bool, Capitalize, Decides, IsAscii, IsAscii-cons, IsAscii-nil, IsCharBoundary, IsCharBoundary-start, IsUtf8, IsUtf8-drop, IsUtf8-take, Line, List, Lowercase, None, Range, Row, Some, Uppercase, WordAction, [], answering, ap, arith, by_runs, bytes_in, chars, clusters, common_steps, cond, drop, edit_word_plan, encode_utf8_all, encodes-chars, end_of_cluster, exchange_plan, false, flat_map, is_ascii, is_grapheme_break, is_in_word_after, length, length-append, length-le-encodes, length-map, list_all, lowercase_before, lowercase_chars, lowercase_runs, lowercase_strings, map, mapped, min, nat_tests, nil_from_length, not, nothing, recased, refl, respell, respelled, starts_with_cased, subst, suc, sym, take, take-append-drop, text_in, to_ascii_lowercase, to_ascii_uppercase, true, unwrap_or, uppercase_runs, uppercase_strings, word_ahead, ℕ, ◌&&◌, ◌++◌, ◌+◌, ◌<◌, ◌==◌, ◌∙◌, ◌∷◌, ◌≡◌}
use Rattle.rl_base.proofs.Texts.TextLemmas.{IsCharBoundary-before_removal, IsCharBoundary-past_replacement}
use Rattle.rl_line.proofs.Plans.PlanLemmas.{Done-as, Done-nothing, Done-steps, Stopped-as}
use Rattle.rl_line.specs.Plan.{bytes_of}
use Rattle.std.specs.Char.Unicode.Rows.{by_strings}
use Rattle.std.specs.Char.Unicode.ToLowercase.{to_lowercase}
use Rattle.std.specs.Char.Unicode.ToUppercase.{to_uppercase}
use Rattle.std.specs.StrCase.Lower.{str_to_lowercase}
use Rattle.std.specs.StrCase.Upper.{str_to_uppercase}
use Rattle.unicode_segmentation.proofs.SegmentsLemmas.{All-IsPieceOf, IsPieceOf}
use Rattle.unicode_segmentation.specs.Segments.{with_offsets}

pub edit_word_plan-nothing : (line : Line) (action : WordAction) → None ≡ word_ahead line → edit_word_plan line action ≡ nothing line false
edit_word_plan-nothing line action e = ap (respell line action) (sym e)

-- a word that is not empty is a text that the plan tells
pub edit_word_plan-tells : (line : Line) (action : WordAction) (word : Range ℕ) (text : List ℕ) → Some word ≡ word_ahead line → text ≡ text_in line word → 0 < length text
    → 0 < bytes_of (edit_word_plan line action).steps
edit_word_plan-tells line action word text e is some = grind arith

ascii-all : (s : List ℕ) → Decides (list_all is_ascii s) (IsAscii s)
ascii-all [] = (λ h. IsAscii-nil, λ h. refl)
ascii-all (c ∷ cs) = from (is_ascii c) refl (ascii-all cs)
  where
    from : (b : Bool) → is_ascii c ≡ b → Decides (list_all is_ascii cs) (IsAscii cs) → Decides (b && list_all is_ascii cs) (IsAscii (c ∷ cs))
    from true low rest = (λ h. IsAscii-cons c cs (grind (arith, nat_tests)) (rest.0 h), λ all. rest.1 (λ k. all (suc k)))
    from false high rest = (λ h. absurd cc, λ all. let less : c < 128 = all 0 in grind (arith, nat_tests))

-- a text is the word respelled, where it is that in each of the two cases
respelled-is : (action : WordAction) (word made : List ℕ) → (IsAscii word → made ≡ recased action word) → (¬ (IsAscii word) → made ≡ mapped action word) → made ≡ respelled action word
respelled-is action word made ascii others = from (list_all is_ascii word) refl
  where
    from : (b : Bool) → list_all is_ascii word ≡ b → made ≡ cond b (recased action word) (mapped action word)
    from true h = ascii ((ascii-all word).0 h)
    from false h = others (λ all. absurd (cc (h, (ascii-all word).1 all)))

pub edit_word_plan-some : (line : Line) (action : WordAction) (word : Range ℕ) (text made : List ℕ) (p q : ℕ) → Some word ≡ word_ahead line → text ≡ text_in line word
    → (IsAscii text → made ≡ recased action text) → (¬ (IsAscii text) → made ≡ mapped action text) → p ≡ line.cursor → q ≡ word.start + length made
    → edit_word_plan line action ≡ answering true (exchange_plan line word p made q)
edit_word_plan-some line action word text made p q e is ascii others at to =
    let put : made ≡ respelled action (text_in line word) = respelled-is action text made ascii others ∙ ap (respelled action) is in
    let stop : q ≡ word.start + length (respelled action (text_in line word)) = to ∙ ap (λ (t : List ℕ). word.start + length t) put in
    ap (respell line action) (sym e) ∙ (λ i. answering true (exchange_plan line word (sym at i) (sym put i) (sym stop i)))

-- a capitalized ASCII word: its first byte is raised, the others are lowered
pub capitalized-ascii : (word front after upper lower made : List ℕ) (first : ℕ) → IsAscii word → first ≡ min 1 (length word) → front ≡ take first word → after ≡ drop first word
    → (IsAscii front → upper ≡ map to_ascii_uppercase front) → (IsAscii after → lower ≡ map to_ascii_lowercase after) → made ≡ upper ++ lower → made ≡ recased Capitalize word
capitalized-ascii word front after upper lower made first a n f b up low is = grind (arith, common_steps)

-- ---- no mapping takes all of a text away
string-some : (rows : List Row) (d c : ℕ) → 0 < length (by_strings (d ∷ []) rows c)
unfolding by_strings
string-some [] d c = omega arith
string-some (row ∷ rows) d c = from (row.0 == c) (row.3 == 0) (string-some rows d c)
  where
    from : (a b : Bool) → 0 < length (by_strings (d ∷ []) rows c) → 0 < length (cond a (cond b (row.1 ∷ row.2 ∷ []) (row.1 ∷ row.2 ∷ row.3 ∷ [])) (by_strings (d ∷ []) rows c))
    from true true rest = omega arith
    from true false rest = omega arith
    from false b rest = rest

upper-some : (c : ℕ) → 0 < length (to_uppercase c)
unfolding to_uppercase
upper-some c = string-some uppercase_strings (by_runs uppercase_runs c) c

lower-some : (c : ℕ) → 0 < length (to_lowercase c)
unfolding to_lowercase
lower-some c = string-some lowercase_strings (by_runs lowercase_runs c) c

uppers-some : (cs : List ℕ) → length (flat_map to_uppercase cs) ≡ 0 → length cs ≡ 0
uppers-some [] e = refl
uppers-some (c ∷ cs) e = absurd (omega (arith, e, length-append (to_uppercase c) (flat_map to_uppercase cs), upper-some c))

lowers-some : (in_word : Bool) (cs : List ℕ) → length (lowercase_chars in_word cs) ≡ 0 → length cs ≡ 0
lowers-some in_word [] e = refl
lowers-some in_word (c ∷ cs) e =
    absurd (omega (arith, e, length-append (lowercase_before in_word c cs) (lowercase_chars (is_in_word_after in_word c) cs), first (c == 0x3A3 && in_word && not (starts_with_cased cs))))
  where
    first : (b : Bool) → 0 < length (cond b (0x3C2 ∷ []) (to_lowercase c))
    first true = omega arith
    first false = lower-some c

chars-none : (s : List ℕ) → IsUtf8 s → length (chars s) ≡ 0 → length s ≡ 0
chars-none s u e = ap length (sym (encodes-chars s u) ∙ ap encode_utf8_all (nil_from_length (chars s) e))

upper-none : (s : List ℕ) → IsUtf8 s → length (str_to_uppercase s) ≡ 0 → length s ≡ 0
unfolding str_to_uppercase
upper-none s u e = chars-none s u (uppers-some (chars s) (omega (arith, e, length-le-encodes (flat_map to_uppercase (chars s)))))

lower-none : (s : List ℕ) → IsUtf8 s → length (str_to_lowercase s) ≡ 0 → length s ≡ 0
unfolding str_to_lowercase
lower-none s u e = chars-none s u (lowers-some false (chars s) (omega (arith, e, length-le-encodes (lowercase_chars false (chars s)))))

first-cut : (word : List ℕ) → IsUtf8 word → IsCharBoundary word (end_of_cluster word 0)
unfolding with_offsets
first-cut word u = from (0 == length word) (clusters word) (All-IsPieceOf (is_grapheme_break true) word u)
  where
    from : (b : Bool) (ps : List (List ℕ)) → All (IsPieceOf word) (with_offsets 0 ps) → IsCharBoundary word (unwrap_or (cond b None (Some (0 + bytes_in (take 1 ps)))) 0)
    from true ps h = IsCharBoundary-start word u
    from false [] h = IsCharBoundary-start word u
    from false (p ∷ ps) h = subst (IsCharBoundary word) (omega (arith, length-append p [])) (All-head (IsPieceOf word) (0, p) _ h).end

mapped-none : (action : WordAction) (word : List ℕ) → IsUtf8 word → length (mapped action word) ≡ 0 → length word ≡ 0
mapped-none Uppercase word u e = upper-none word u e
mapped-none Lowercase word u e = lower-none word u e
mapped-none Capitalize word u e =
    let first = end_of_cluster word 0 in
    let cut = first-cut word u in
    let both = length-append (str_to_uppercase (take first word)) (str_to_lowercase (drop first word)) in
    let front = upper-none (take first word) (IsUtf8-take word first u cut) (omega (arith, e, both)) in
    let rest = lower-none (drop first word) (IsUtf8-drop word first u cut) (omega (arith, e, both)) in
    omega (arith, front, rest, length-append (take first word) (drop first word), ap length (take-append-drop first word))

recased-none : (action : WordAction) (word : List ℕ) → length (recased action word) ≡ 0 → length word ≡ 0
recased-none Uppercase word e = omega (arith, e, length-map word to_ascii_uppercase)
recased-none Lowercase word e = omega (arith, e, length-map word to_ascii_lowercase)
recased-none Capitalize word e =
    omega (
      arith,
      e,
      length-append (map to_ascii_uppercase (take 1 word)) (map to_ascii_lowercase (drop 1 word)),
      length-map (take 1 word) to_ascii_uppercase,
      length-map (drop 1 word) to_ascii_lowercase,
      length-append (take 1 word) (drop 1 word),
      ap length (take-append-drop 1 word),
    )

-- so a word that is not empty gives way to a text that is not
pub respelled-none : (action : WordAction) (word : List ℕ) → IsUtf8 word → length (respelled action word) ≡ 0 → length word ≡ 0
respelled-none action word u = grind (arith, recased-none, mapped-none)

pub ruleset words = (edit_word_plan-nothing, edit_word_plan-some, edit_word_plan-tells, IsCharBoundary-before_removal, IsCharBoundary-past_replacement, Done-as, Done-nothing, Done-steps, Stopped-as)
