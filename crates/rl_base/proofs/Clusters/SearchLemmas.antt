-- Hits of a character, as characters are taken from either end.
use Rattle.rl_base.proofs.Common.{◌≡◌, ℕ, ◌+◌, ◌-◌, ◌<◌, ◌≤◌, suc, List, [], ◌∷◌, ◌++◌, map, filter, reverse, length, take, drop, slice_range, Option, Some, None, refl, sym, ap, ap₂, subst, ◌∙◌, arith, Bool, true, false, cond, eq-eqb, ne_eqb, eqb, append_assoc, length-append, take_at, eqb-true, take-nil, append-nil, length-drop, length-take-le, take-append-drop, reverse-append, map-append, nil_from_length, filter-append, All-nil, All-cons, All-head, All-take, IfSome_then, chars-nil, chars-append, chars_past_char, length-encode, encodes-chars, IsUtf8-append, IsUtf8-drop, IsUtf8-take, IsUtf8-past_char, IsCharBoundary-from_rest, IsTrue, len_utf8, All, last_or, IfSome, option_and_then, encode_utf8, encode_utf8_all, unwrap_or, chars, IsUtf8, IsCharBoundary, is_grapheme_break, clusters, bytes_in, next_pos, PlacedCluster, char_places, places_of, hits, nth_or_last, hit_back, hit_ahead, chosen_hit, sought, HitLies, place_of_last, CharSearch, ForwardBefore, BackwardAfter, stands_at, All-map, IsUtf8-nil, get_or, filter_passes, All-filter}
use Rattle.unicode_segmentation.specs.Segments.{with_offsets}
use Rattle.unicode_segmentation.proofs.SegmentsLemmas.{AllPieces, IsPieceOf, All-IsPieceOf, segments_nonempty}
use Rattle.unicode_segmentation.proofs.TextLemmas.{chars-encode_utf8, IsUtf8-before, take_split}
use Rattle.rl_base.specs.declared.motion.CharSearch.TheVariants.{Forward, Backward}
use Rattle.rl_base.proofs.Clusters.ClusterLemmas.{bytes_in-clusters}
use Rattle.rl_base.proofs.Texts.TextLemmas.{IsCharBoundary-in_front, StandsAt-middle, stands_at-part}
use Rattle.rl_base.proofs.Clusters.WordLemmas.{All-reverse, last_or-is, last_or-push}

-- ---- one character is taken
pub char_places-first_at : (text rest : List ℕ) (from after place c : ℕ) → IsUtf8 text → text ≡ encode_utf8 c ++ rest
    → after ≡ from + length (encode_utf8 c) → place ≡ from
    → char_places from (chars text) ≡ (place, c) ∷ char_places after (chars rest)
char_places-first_at text rest from after place c u e next at =
    ap (char_places from) (chars_past_char text rest c u e)
    ∙ ap₂ (λ p n. (p, c) ∷ char_places n (chars rest)) (sym at) (omega (arith, length-encode c, next))

-- what is taken is no longer left
pub left_within : (start at next total : ℕ) (text rest : List ℕ) (c : ℕ) → start + (at + length text) ≡ total → text ≡ encode_utf8 c ++ rest → next ≡ at + length (encode_utf8 c)
    → start + (next + length rest) ≡ total
left_within start at next total text rest c within e past = omega (arith, ap length e, length-append (encode_utf8 c) rest)

char_places_push : (from : ℕ) (cs : List ℕ) (c : ℕ) → char_places from (cs ++ c ∷ []) ≡ char_places from cs ++ (from + length (encode_utf8_all cs), c) ∷ []
char_places_push from [] c = let same : from ≡ from + 0 = omega arith in ap (λ n. (n, c) ∷ []) same
char_places_push from (d ∷ cs) c =
    let same : from + len_utf8 d + length (encode_utf8_all cs) ≡ from + length (encode_utf8 d ++ encode_utf8_all cs) =
    omega (arith, length-encode d, length-append (encode_utf8 d) (encode_utf8_all cs)) in
    ap (λ l. (from, d) ∷ l) (char_places_push (from + len_utf8 d) cs c ∙ ap (λ n. char_places (from + len_utf8 d) cs ++ (n, c) ∷ []) same)

pub char_places-last_at : (text rest : List ℕ) (from after place c : ℕ) → IsUtf8 rest → IsUtf8 (encode_utf8 c) → text ≡ rest ++ encode_utf8 c → after ≡ from → place ≡ from + length rest
    → char_places from (chars text) ≡ char_places after (chars rest) ++ (place, c) ∷ []
char_places-last_at text rest from after place c u v e same at =
    ap (char_places from) (ap chars e ∙ chars-append rest (encode_utf8 c) u ∙ ap (λ l. chars rest ++ l) (chars-encode_utf8 c v))
    ∙ char_places_push from (chars rest) c
    ∙ ap₂ (λ n p. char_places n (chars rest) ++ (p, c) ∷ []) (sym same) (ap (λ t. from + length t) (encodes-chars rest u) ∙ sym at)

none_among : (wanted from : ℕ) (text : List ℕ) → length text ≡ 0 → places_of wanted (char_places from (chars text)) ≡ []
none_among wanted from text e = ap (λ cs. places_of wanted (char_places from cs)) (ap chars (nil_from_length text e) ∙ chars-nil)

pub nothing_left : (wanted : ℕ) (hit : Option ℕ) (n from : ℕ) (text : List ℕ) → length text ≡ 0 → last_or hit (take n (places_of wanted (char_places from (chars text)))) ≡ hit
nothing_left wanted hit n from text e = ap (λ l. last_or hit (take n l)) (none_among wanted from text e) ∙ ap (last_or hit) (take-nil n)

pub nothing_left_back : (wanted : ℕ) (hit : Option ℕ) (n from : ℕ) (text : List ℕ) → length text ≡ 0 → last_or hit (take n (reverse (places_of wanted (char_places from (chars text))))) ≡ hit
nothing_left_back wanted hit n from text e = ap (λ l. last_or hit (take n (reverse l))) (none_among wanted from text e) ∙ ap (last_or hit) (take-nil n)

-- ---- the search over what is left
module _ (wanted place c : ℕ) (hit : Option ℕ) where
  places_of-hit : (xs : List (ℕ × ℕ)) → c ≡ wanted → places_of wanted ((place, c) ∷ xs) ≡ place ∷ places_of wanted xs
  places_of-hit xs e = ap (λ b. map (λ x. x.0) (cond b ((place, c) ∷ filter (λ x. eqb x.1 wanted) xs) (filter (λ x. eqb x.1 wanted) xs))) (eq-eqb c wanted e)

  places_of-miss : (xs : List (ℕ × ℕ)) → (c ≡ wanted → ⊥) → places_of wanted ((place, c) ∷ xs) ≡ places_of wanted xs
  places_of-miss xs e = ap (λ b. map (λ x. x.0) (cond b ((place, c) ∷ filter (λ x. eqb x.1 wanted) xs) (filter (λ x. eqb x.1 wanted) xs))) (ne_eqb c wanted e)

  take-first : (n : ℕ) (ys : List ℕ) → 0 < n → last_or hit (take n (place ∷ ys)) ≡ last_or (Some place) (take (n - 1) ys)
  take-first n ys some = let more : n ≡ suc (n - 1) = omega arith in ap (λ k. last_or hit (take k (place ∷ ys))) more

  pub search-hit : (left rest : List (ℕ × ℕ)) (n : ℕ) → left ≡ (place, c) ∷ rest → c ≡ wanted → 0 < n → last_or hit (take n (places_of wanted left)) ≡ last_or (Some place) (take (n - 1) (places_of wanted rest))
  search-hit left rest n e same some = ap (λ l. last_or hit (take n l)) (ap (places_of wanted) e ∙ places_of-hit rest same) ∙ take-first n (places_of wanted rest) some

  pub search-miss : (left rest : List (ℕ × ℕ)) (n : ℕ) → left ≡ (place, c) ∷ rest → (c ≡ wanted → ⊥) → last_or hit (take n (places_of wanted left)) ≡ last_or hit (take n (places_of wanted rest))
  search-miss left rest n e other = ap (λ l. last_or hit (take n l)) (ap (places_of wanted) e ∙ places_of-miss rest other)

  last_split : (left rest : List (ℕ × ℕ)) → left ≡ rest ++ (place, c) ∷ [] → reverse (places_of wanted left) ≡ reverse (places_of wanted ((place, c) ∷ [])) ++ reverse (places_of wanted rest)
  last_split left rest e =
      let test : ℕ × ℕ → Bool = λ x. eqb x.1 wanted in
      let place_of : ℕ × ℕ → ℕ = λ x. x.0 in
      ap reverse (ap (places_of wanted) e ∙ ap (map place_of) (filter-append test rest ((place, c) ∷ [])) ∙ map-append place_of (filter test rest) (filter test ((place, c) ∷ [])))
      ∙ reverse-append (places_of wanted rest) (places_of wanted ((place, c) ∷ []))

  pub search_back-hit : (left rest : List (ℕ × ℕ)) (n : ℕ) → left ≡ rest ++ (place, c) ∷ [] → c ≡ wanted → 0 < n
      → last_or hit (take n (reverse (places_of wanted left))) ≡ last_or (Some place) (take (n - 1) (reverse (places_of wanted rest)))
  search_back-hit left rest n e same some =
      ap (λ l. last_or hit (take n l)) (last_split left rest e ∙ ap (λ l. reverse l ++ reverse (places_of wanted rest)) (places_of-hit [] same))
      ∙ take-first n (reverse (places_of wanted rest)) some

  pub search_back-miss : (left rest : List (ℕ × ℕ)) (n : ℕ) → left ≡ rest ++ (place, c) ∷ [] → (c ≡ wanted → ⊥)
      → last_or hit (take n (reverse (places_of wanted left))) ≡ last_or hit (take n (reverse (places_of wanted rest)))
  search_back-miss left rest n e other =
      ap (λ l. last_or hit (take n l)) (last_split left rest e ∙ ap (λ l. reverse l ++ reverse (places_of wanted rest)) (places_of-miss [] other))

-- ---- what stands at the hits
-- the character stands at the place, from `least` on and up to `most`
pub record IsHit (text : List ℕ) (least most c place : ℕ) : Type 0 where
  pub start : IsCharBoundary text place
  pub end : IsCharBoundary text (place + len_utf8 c)
  pub bytes : slice_range text place (place + length (encode_utf8 c)) ≡ encode_utf8 c
  pub from : least ≤ place
  pub to : place + len_utf8 c ≤ most

char_places_stand : (text front cs rest : List ℕ) (least most : ℕ) → text ≡ front ++ (encode_utf8_all cs ++ rest) → IsUtf8 (encode_utf8_all cs ++ rest)
    → least ≤ length front → length front + length (encode_utf8_all cs) ≤ most → All (λ x. IsHit text least most x.1 x.0) (char_places (length front) cs)
char_places_stand text front [] rest least most e u low high = All-nil _
char_places_stand text front (c ∷ cs) rest least most e u low high =
    let one = encode_utf8 c in
    let more = encode_utf8_all cs ++ rest in
    let split = append_assoc one (encode_utf8_all cs) rest in
    let here = e ∙ ap (λ l. front ++ l) split in
    let next = here ∙ sym (append_assoc front one more) in
    let v = IsUtf8-past_char _ more c u split in
    let width : length (front ++ one) ≡ length front + len_utf8 c = omega (arith, length-append front one, length-encode c) in
    let whole : length (encode_utf8_all (c ∷ cs)) ≡ len_utf8 c + length (encode_utf8_all cs) = omega (arith, length-append one (encode_utf8_all cs), length-encode c) in
    let at = StandsAt-middle text front one more (length front) here refl (IsUtf8-before _ one more u v split) v in
    All-cons (λ x. IsHit text least most x.1 x.0) (length front, c) _
    (record {
      start = at.start;
      end = subst (λ n. IsCharBoundary text (length front + n)) (length-encode c) at.end;
      bytes = at.bytes;
      from = low;
      to = omega arith;
    })
    (subst (λ n. All (λ x. IsHit text least most x.1 x.0) (char_places n cs)) width
    (char_places_stand text (front ++ one) cs rest least most next v (omega arith) (omega arith)))

All-places_of : (Q : ℕ → ℕ → Type 0) (wanted : ℕ) (xs : List (ℕ × ℕ)) → All (λ x. Q x.1 x.0) xs → All (Q wanted) (places_of wanted xs)
All-places_of Q wanted xs h =
    let is_wanted : ℕ × ℕ → Bool = λ x. eqb x.1 wanted in
    All-map (Q wanted) (λ x. x.0) (filter is_wanted xs)
    (λ k d l. subst (λ c. Q c (get_or (filter is_wanted xs) k d).0) (eqb-true _ wanted (filter_passes is_wanted xs k d l))
    (All-filter is_wanted (λ x. Q x.1 x.0) xs h k d l))

-- so do the hits in a part of the text
hits-stand : (text front part rest : List ℕ) (start least most c : ℕ) → text ≡ front ++ (part ++ rest) → length front ≡ start → IsUtf8 part → IsUtf8 rest
    → least ≤ start → start + length part ≤ most → All (IsHit text least most c) (hits c start part)
hits-stand text front part rest start least most c e at u v low high =
    let whole = encodes-chars part u in
    let same = ap (λ p. p ++ rest) (sym whole) in
    let placed = char_places_stand text front (chars part) rest least most (e ∙ ap (λ l. front ++ l) same) (subst IsUtf8 same (IsUtf8-append part rest u v))
    (omega arith) (omega (arith, ap length whole)) in
    All-places_of (IsHit text least most) c _ (subst (λ p. All (λ x. IsHit text least most x.1 x.0) (char_places p (chars part))) at placed)

nth_or_last-is : (P : ℕ → Type 0) (n : ℕ) (xs : List ℕ) → All P xs → IfSome (nth_or_last n xs) P
nth_or_last-is P n xs h = last_or-is P None (take n xs) tt (All-take P n xs h)

pub hit_back-is : (text : List ℕ) (pos c n : ℕ) → IsUtf8 text → IsCharBoundary text pos → IfSome (hit_back text pos c n) (IsHit text 0 pos c)
hit_back-is text pos c n u bound =
    nth_or_last-is (IsHit text 0 pos c) n _ (All-reverse (IsHit text 0 pos c) _
    (hits-stand text [] (take pos text) (drop pos text) 0 0 pos c (sym (take-append-drop pos text)) refl (IsUtf8-take text pos u bound)
    (IsUtf8-drop text pos u bound)
    (omega arith) (omega (arith, length-take-le pos text bound.0))))

search_from-is : (text : List ℕ) (start c n : ℕ) → IsUtf8 text → IsCharBoundary text start → IfSome (nth_or_last n (hits c start (drop start text))) (IsHit text start (length text) c)
search_from-is text start c n u bound =
    let split : text ≡ take start text ++ (drop start text ++ []) =
    sym (ap (λ l. take start text ++ l) (append-nil (drop start text)) ∙ take-append-drop start text) in
    nth_or_last-is (IsHit text start (length text) c) n _
    (hits-stand text (take start text) (drop start text) [] start start (length text) c split (length-take-le start text bound.0)
    (IsUtf8-drop text start u bound) IsUtf8-nil
    (omega arith) (omega (arith, length-drop start text, bound.0)))

-- past one cluster
record IsPast (text : List ℕ) (pos place : ℕ) : Type 0 where
  ahead : pos < place
  boundary : IsCharBoundary text place

past_first : (text : List ℕ) (pos : ℕ) (pieces : List (List ℕ)) → IsUtf8 text → IsCharBoundary text pos → (pos ≡ length text → ⊥) → pieces ≡ clusters (drop pos text)
    → IsPast text pos (pos + bytes_in (take 1 pieces))
unfolding with_offsets
past_first text pos [] u bound inside e =
    absurd (omega (arith, bound.0, ap bytes_in e, bytes_in-clusters (drop pos text) (IsUtf8-drop text pos u bound), length-drop pos text))
past_first text pos (piece ∷ pieces) u bound inside e =
    let v = IsUtf8-drop text pos u bound in
    let some : 0 < length piece = (subst (AllPieces (λ p. 0 < length p)) (sym e) (segments_nonempty (is_grapheme_break true) (drop pos text))).0 in
    let P : PlacedCluster → Type 0 = IsPieceOf (drop pos text) in
    let first = All-head P (0, piece) (with_offsets (0 + length piece) pieces) (subst (λ ps. All P (with_offsets 0 ps)) (sym e) (All-IsPieceOf (is_grapheme_break true) (drop pos text) v)) in
    let width : bytes_in (take 1 (piece ∷ pieces)) ≡ 0 + length piece = length-append piece [] ∙ (omega arith) in
    record { ahead = omega (arith, width, some); boundary = IsCharBoundary-from_rest text pos _ bound.0 (subst (IsCharBoundary (drop pos text)) (sym width) first.end) }

hit_ahead-by : (text : List ℕ) (pos c n : ℕ) (o : Option ℕ) → IsUtf8 text → IfSome o (IsPast text pos)
    → IfSome (option_and_then (λ start. nth_or_last n (hits c start (drop start text))) o) (IsHit text (pos + 1) (length text) c)
hit_ahead-by text pos c n None u h = tt
hit_ahead-by text pos c n (Some start) u h =
    IfSome_then _ {Q = IsHit text (pos + 1) (length text) c} (search_from-is text start c n u h.boundary) (λ p x. record { start = x.start; end = x.end; bytes = x.bytes; from = omega (arith, h.ahead, x.from); to = x.to })

pub hit_ahead-is : (text : List ℕ) (pos c n : ℕ) → IsUtf8 text → IsCharBoundary text pos → IfSome (hit_ahead text pos c n) (IsHit text (pos + 1) (length text) c)
hit_ahead-is text pos c n u bound = hit_ahead-by text pos c n (next_pos text pos 1) u (first (eqb pos (length text)) refl)
  where
    first : (b : Bool) → eqb pos (length text) ≡ b → IfSome (cond b None (Some (pos + bytes_in (take 1 (clusters (drop pos text)))))) (IsPast text pos)
    first true e = tt
    first false e = past_first text pos _ u bound (λ same. absurd (cc (e, eq-eqb pos (length text) same))) refl

-- the character of the search stands at its hit, on its side
pub record IsHitOf (text : List ℕ) (pos : ℕ) (cs : CharSearch) (hit : ℕ) : Type 0 where
  pub start : IsCharBoundary text hit
  pub end : IsCharBoundary text (hit + len_utf8 (sought cs))
  pub bytes : slice_range text hit (hit + length (encode_utf8 (sought cs))) ≡ encode_utf8 (sought cs)
  pub side : HitLies cs pos hit

ahead : (text : List ℕ) (pos : ℕ) (cs : CharSearch) (hit : ℕ) → IsHit text (pos + 1) (length text) (sought cs) hit → (pos < hit → HitLies cs pos hit) → IsHitOf text pos cs hit
ahead text pos cs hit h f = record { start = h.start; end = h.end; bytes = h.bytes; side = f (omega (arith, h.from)) }

back : (text : List ℕ) (pos : ℕ) (cs : CharSearch) (hit : ℕ) → IsHit text 0 pos (sought cs) hit → (hit + len_utf8 (sought cs) ≤ pos → HitLies cs pos hit) → IsHitOf text pos cs hit
back text pos cs hit h f = record { start = h.start; end = h.end; bytes = h.bytes; side = f h.to }

pub chosen_hit-is : (text : List ℕ) (pos : ℕ) (cs : CharSearch) (n : ℕ) → IsUtf8 text → IsCharBoundary text pos → IfSome (chosen_hit text pos cs n) (IsHitOf text pos cs)
chosen_hit-is text pos (Backward c) n u bound = IfSome_then _ (hit_back-is text pos c n u bound) (λ hit h. back text pos (Backward c) hit h (λ k. k))
chosen_hit-is text pos (BackwardAfter c) n u bound = IfSome_then _ (hit_back-is text pos c n u bound) (λ hit h. back text pos (BackwardAfter c) hit h (λ k. k))
chosen_hit-is text pos (Forward c) n u bound = IfSome_then _ (hit_ahead-is text pos c n u bound) (λ hit h. ahead text pos (Forward c) hit h (λ k. k))
chosen_hit-is text pos (ForwardBefore c) n u bound = IfSome_then _ (hit_ahead-is text pos c n u bound) (λ hit h. ahead text pos (ForwardBefore c) hit h (λ k. k))

stands_at-hit : (text : List ℕ) (pos : ℕ) (cs : CharSearch) (hit : ℕ) → IsUtf8 text → IsHitOf text pos cs hit → IsTrue (stands_at text hit (encode_utf8 (sought cs)))
stands_at-hit text pos cs hit u h =
    let s = encode_utf8 (sought cs) in
    let end : IsCharBoundary text (hit + length s) = subst (λ n. IsCharBoundary text (hit + n)) (sym (length-encode (sought cs))) h.end in
    subst (λ t. stands_at text hit t ≡ true) h.bytes (stands_at-part text hit (hit + length s) u (omega arith) h.start end)

-- the same, clause by clause
pub record IsFound (text : List ℕ) (pos : ℕ) (cs : CharSearch) (o : Option ℕ) : Type 0 where
  pub boundary : IfSome o (IsCharBoundary text)
  pub stands : IfSome o (λ hit. IsTrue (stands_at text hit (encode_utf8 (sought cs))))
  pub past : IfSome o (λ hit. IsCharBoundary text (hit + len_utf8 (sought cs)))
  pub side : IfSome o (HitLies cs pos)

pub IsFound-chosen : (text : List ℕ) (pos : ℕ) (cs : CharSearch) (n : ℕ) (o : Option ℕ) → IsUtf8 text → IsCharBoundary text pos → o ≡ chosen_hit text pos cs n → IsFound text pos cs o
IsFound-chosen text pos cs n o u bound e =
    let found : IfSome o (IsHitOf text pos cs) = subst (λ o. IfSome o (IsHitOf text pos cs)) (sym e) (chosen_hit-is text pos cs n u bound) in
    record {
      boundary = IfSome_then o {P = IsHitOf text pos cs} found (λ hit h. h.start);
      stands = IfSome_then o {P = IsHitOf text pos cs} found (λ hit h. stands_at-hit text pos cs hit u h);
      past = IfSome_then o {P = IsHitOf text pos cs} found (λ hit h. h.end);
      side = IfSome_then o {P = IsHitOf text pos cs} found (λ hit h. h.side);
    }

-- ---- the character before a place
pub record IsLastPlace (text : List ℕ) (end place : ℕ) : Type 0 where
  pub value : place ≡ place_of_last (take end text)
  pub boundary : IsCharBoundary text place

pub last_place-is : (text rest : List ℕ) (start end place c : ℕ) → IsUtf8 text → IsCharBoundary text start → IsCharBoundary text end → start ≤ end → IsUtf8 (slice_range text start end)
    → IsUtf8 (encode_utf8 c) → slice_range text start end ≡ rest ++ encode_utf8 c → place ≡ start + length rest → IsLastPlace text end place
last_place-is text rest start end place c u low high le v one e at =
    let front = take start text ++ rest in
    let w = IsUtf8-append (take start text) rest (IsUtf8-take text start u low) (IsUtf8-before _ rest (encode_utf8 c) v one e) in
    let split : take end text ≡ front ++ encode_utf8 c =
    take_split text start end le ∙ ap (λ l. take start text ++ l) e ∙ sym (append_assoc (take start text) rest (encode_utf8 c)) in
    let width : length front ≡ place = omega (arith, length-append (take start text) rest, length-take-le start text low.0) in
    let within : place ≤ end = omega (arith, ap length split, length-append front (encode_utf8 c), length-take-le end text high.0) in
    let last : place_of_last (take end text) ≡ 0 + length front =
    ap (λ l. unwrap_or (last_or None (map (λ x. x.0) l)) 0) (char_places-last_at (take end text) front 0 0 (0 + length front) c w one split refl refl)
    ∙ ap (λ o. unwrap_or o 0) (last_or-push (λ x. x.0) None (char_places 0 (chars front)) (0 + length front, c)) in
    record {
      value = omega arith;
      boundary = IsCharBoundary-in_front text end place u high.0 within
          (subst IsUtf8 (sym (ap (take place) split ∙ take_at front (encode_utf8 c) place width)) w);
    }
