-- The stops of word motions, as clusters are taken from the back.
use Rattle.rl_base.proofs.Common.{◌≡◌, ℕ, ◌-◌, ◌<◌, zero, suc, Bool, true, false, List, [], ◌∷◌, ◌++◌, map, reverse, length, take, Option, Some, None, refl, sym, ap, subst, ◌∙◌, arith, slice_get, ◌≤◌, append-nil, length_push, reverse-append, length-reverse, get_or-reverse, length-take-le, IsUtf8-take, IsCharBoundary-start, filter_map-append, All-nil, All-cons, All-head, All-tail, All-weaker, All-drop, All-map, slice_get_within, get_or_from_slice_get, All, find, last_or, filter_map, cons_option, IfSome, option_map, unwrap_or, cond, if◌then◌else◌, At, BeforeEnd, AfterEnd, Word, Big, Emacs, Vi, nat_tests, IsUtf8, IsCharBoundary, is_grapheme_break, clusters, bytes_in, is_word, starts, ends, PlacedCluster, placed_clusters, prev_word, looked_at, last_place, neighbours, stop_between, stops, nth, first_member}
use Rattle.rl_base.specs.declared.motion.At.TheVariants.{Start}
use Rattle.unicode_segmentation.proofs.SegmentsLemmas.{IsPieceOf, All-IsPieceOf, length-segments, length-with_offsets, nil_from-with_offsets}
use Rattle.rl_base.proofs.Clusters.ClusterLemmas.{bytes_in-clusters}
use Rattle.rl_base.proofs.Texts.TextLemmas.{IsCharBoundary-in_front}

-- one more element at the end is one more pair at the end
pub neighbours_push : {X : Type 0} (xs : List X) (x y : X) → neighbours ((xs ++ x ∷ []) ++ y ∷ []) ≡ neighbours (xs ++ x ∷ []) ++ (x, y) ∷ []
neighbours_push [] x y = refl
neighbours_push (z ∷ []) x y = refl
neighbours_push (z ∷ (w ∷ xs)) x y = ap (λ ps. (z, w) ∷ ps) (neighbours_push (w ∷ xs) x y)

-- one more cluster at the end is one more stop at the end, if there is one between the last two
pub stops_push : (at : At) (sense : Word) (xs : List PlacedCluster) (x y : PlacedCluster)
    → stops at sense ((xs ++ x ∷ []) ++ y ∷ []) ≡ stops at sense (xs ++ x ∷ []) ++ cons_option (stop_between at sense (x, y)) []
stops_push at sense xs x y =
    ap (filter_map (stop_between at sense)) (neighbours_push xs x y) ∙ filter_map-append (stop_between at sense) (neighbours (xs ++ x ∷ [])) ((x, y) ∷ [])

-- the n-th start of a word from the back, or 0
abbrev pub start_before : Word → ℕ → List PlacedCluster → ℕ
start_before sense n pieces = unwrap_or (nth n (reverse (stops Start sense pieces))) 0

nth-past_first : (n y : ℕ) (ys : List ℕ) → 1 < n → nth n (y ∷ ys) ≡ nth (n - 1) ys
nth-past_first n y ys more =
    let two : n ≡ suc (suc (n - 2)) = omega arith in
    let one : n - 1 ≡ suc (n - 2) = omega arith in
    ap (λ k. nth k (y ∷ ys)) two ∙ sym (ap (λ k. nth k ys) one)

-- x is the last of the clusters that are left, and y stands after them
module _ (sense : Word) (left xs : List PlacedCluster) (x y : PlacedCluster) (e : left ≡ xs ++ x ∷ []) where
  split : stops Start sense (left ++ y ∷ []) ≡ stops Start sense (xs ++ x ∷ []) ++ cons_option (stop_between Start sense (x, y)) []
  split = ap (λ l. stops Start sense (l ++ y ∷ [])) e ∙ stops_push Start sense xs x y

  found : starts sense x.1 y.1 ≡ true → reverse (stops Start sense (left ++ y ∷ [])) ≡ y.0 ∷ reverse (stops Start sense (xs ++ x ∷ []))
  found h =
      let front = stops Start sense (xs ++ x ∷ []) in
      ap reverse (split ∙ ap (λ b. front ++ cons_option (if b then Some y.0 else None) []) h) ∙ reverse-append front (y.0 ∷ [])

  pub start_before-hit : (n : ℕ) → n ≡ 1 → starts sense x.1 y.1 ≡ true → start_before sense n (left ++ y ∷ []) ≡ y.0
  start_before-hit n one h = ap (λ k. unwrap_or (nth k (reverse (stops Start sense (left ++ y ∷ [])))) 0) one ∙ ap (λ l. unwrap_or (nth 1 l) 0) (found h)

  pub start_before-more : (n : ℕ) → 1 < n → starts sense x.1 y.1 ≡ true → start_before sense n (left ++ y ∷ []) ≡ start_before sense (n - 1) (xs ++ x ∷ [])
  start_before-more n more h = ap (λ l. unwrap_or (nth n l) 0) (found h) ∙ ap (λ o. unwrap_or o 0) (nth-past_first n y.0 (reverse (stops Start sense (xs ++ x ∷ []))) more)

  pub start_before-miss : (n : ℕ) → starts sense x.1 y.1 ≡ false → start_before sense n (left ++ y ∷ []) ≡ start_before sense n (xs ++ x ∷ [])
  start_before-miss n h =
      let front = stops Start sense (xs ++ x ∷ []) in
      ap (λ l. unwrap_or (nth n (reverse l)) 0) (split ∙ ap (λ b. front ++ cons_option (if b then Some y.0 else None) []) h ∙ append-nil front)

-- ---- the whole answer
pub prev_word-some : (text : List ℕ) (pos : ℕ) (sense : Word) (n : ℕ) → 0 < pos → prev_word text pos sense n ≡ Some (start_before sense n (placed_clusters (take pos text)))
prev_word-some text pos sense n some = grind (arith, nat_tests)

-- there is a cluster unless the place is the start
pub prev_word-none : (text : List ℕ) (pos : ℕ) (sense : Word) (n : ℕ) (front : List ℕ) → front ≡ take pos text → length front ≡ pos → IsUtf8 front → placed_clusters front ≡ [] → prev_word text pos sense n ≡ None
prev_word-none text pos sense n front e len u none =
    let empty : pos ≡ 0 = omega (arith, bytes_in-clusters front u, ap bytes_in (nil_from-with_offsets 0 (clusters front) none)) in
    ap (λ p. prev_word text p sense n) empty

pub clusters_some : (text : List ℕ) (xs : List PlacedCluster) (x : PlacedCluster) → IsUtf8 text → placed_clusters text ≡ xs ++ x ∷ [] → 0 < length text
clusters_some text xs x u e =
    omega (arith, length-segments (is_grapheme_break true) text u, length-with_offsets 0 (clusters text), ap length e, length_push xs x)

-- ---- from the front: x stands before the clusters that are left, of which y is the first
pub nth-past_stop : (at : At) (sense : Word) (left rest : List PlacedCluster) (x y : PlacedCluster) (stop n : ℕ)
    → left ≡ y ∷ rest → Some stop ≡ stop_between at sense (x, y) → 1 < n → nth n (stops at sense (x ∷ left)) ≡ nth (n - 1) (stops at sense (y ∷ rest))
nth-past_stop at sense left rest x y stop n e hit more =
    ap (λ l. nth n (stops at sense (x ∷ l))) e ∙ ap (λ o. nth n (cons_option o (stops at sense (y ∷ rest)))) (sym hit)
    ∙ nth-past_first n stop (stops at sense (y ∷ rest)) more

-- ---- the stops are places of the clusters
if_some : (P : ℕ → Type 0) (b : Bool) (x : ℕ) → P x → IfSome (if b then Some x else None) P
if_some P true x h = h
if_some P false x h = tt

stop_between-is : (P : ℕ → Type 0) (at : At) (sense : Word) (x y : PlacedCluster) → P x.0 → P y.0 → IfSome (stop_between at sense (x, y)) P
stop_between-is P Start sense x y hx hy = if_some P (starts sense x.1 y.1) y.0 hy
stop_between-is P AfterEnd sense x y hx hy = if_some P (ends sense x.1 y.1) y.0 hy
stop_between-is P BeforeEnd Emacs x y hx hy = if_some P (ends Emacs x.1 y.1) y.0 hy
stop_between-is P BeforeEnd Big x y hx hy = if_some P (ends Big x.1 y.1) x.0 hx
stop_between-is P BeforeEnd Vi x y hx hy = if_some P (ends Vi x.1 y.1) x.0 hx

All-cons_option : (P : ℕ → Type 0) (o : Option ℕ) (xs : List ℕ) → IfSome o P → All P xs → All P (cons_option o xs)
All-cons_option P None xs h k = k
All-cons_option P (Some x) xs h k = All-cons P x xs h k

pub All-stops : (P : ℕ → Type 0) (at : At) (sense : Word) (pieces : List PlacedCluster) → All (λ x. P x.0) pieces → All P (stops at sense pieces)
All-stops P at sense [] h = All-nil P
All-stops P at sense (x ∷ []) h = All-nil P
All-stops P at sense (x ∷ (y ∷ xs)) h =
    let Q : PlacedCluster → Type 0 = λ z. P z.0 in
    let rest = All-tail Q x (y ∷ xs) h in
    All-cons_option P _ _ (stop_between-is P at sense x y (All-head Q x (y ∷ xs) h) (All-head Q y xs rest)) (All-stops P at sense (y ∷ xs) rest)

pub nth-is : (P : ℕ → Type 0) (n x : ℕ) (xs : List ℕ) → All P xs → nth n xs ≡ Some x → P x
nth-is P zero x xs h e = absurd (cc e)
nth-is P (suc n) x xs h e = subst P (get_or_from_slice_get xs n x x e) (h n x (slice_get_within xs n x e))

-- a text may be cut at the places of its clusters
pub All-places : (text : List ℕ) → IsUtf8 text → All (λ x. IsCharBoundary text x.0) (placed_clusters text)
All-places text u = All-weaker (IsPieceOf text) (λ x. IsCharBoundary text x.0) (λ x h. h.start) _ (All-IsPieceOf (is_grapheme_break true) text u)

pub IsCharBoundary-stop : (text : List ℕ) (at : At) (sense : Word) (n stop : ℕ) → IsUtf8 text → Some stop ≡ nth n (stops at sense (looked_at at (placed_clusters text))) → IsCharBoundary text stop
IsCharBoundary-stop text Start sense n stop u e = nth-is (IsCharBoundary text) n stop _ (All-stops (IsCharBoundary text) Start sense _ (All-places text u)) (sym e)
IsCharBoundary-stop text AfterEnd sense n stop u e = nth-is (IsCharBoundary text) n stop _ (All-stops (IsCharBoundary text) AfterEnd sense _ (All-places text u)) (sym e)
IsCharBoundary-stop text BeforeEnd sense n stop u e =
    nth-is (IsCharBoundary text) n stop _ (All-stops (IsCharBoundary text) BeforeEnd sense _ (All-drop (λ x. IsCharBoundary text x.0) 1 _ (All-places text u))) (sym e)

pub last_or-is : (P : ℕ → Type 0) (o : Option ℕ) (xs : List ℕ) → IfSome o P → All P xs → IfSome (last_or o xs) P
last_or-is P o [] h k = h
last_or-is P o (x ∷ xs) h k = last_or-is P (Some x) xs (All-head P x xs k) (All-tail P x xs k)

pub last_or-push : {X Y : Type 0} (f : X → Y) (o : Option Y) (xs : List X) (x : X) → last_or o (map f (xs ++ x ∷ [])) ≡ Some (f x)
last_or-push f o [] x = refl
last_or-push f o (y ∷ ys) x = last_or-push f (Some (f y)) ys x

pub IsCharBoundary-last_place : (text : List ℕ) → IsUtf8 text → IfSome (last_place text) (IsCharBoundary text)
IsCharBoundary-last_place text u =
    last_or-is (IsCharBoundary text) None _ tt (All-map (IsCharBoundary text) (λ piece. piece.0) _ (All-drop (λ x. IsCharBoundary text x.0) 1 _ (All-places text u)))

pub All-reverse : (P : ℕ → Type 0) (xs : List ℕ) → All P xs → All P (reverse xs)
All-reverse P xs h k d lt =
    let within : k < length xs = omega (arith, length-reverse xs) in
    subst P (sym (get_or-reverse xs k d within)) (h (length xs - 1 - k) d (omega arith))

pub nth-is_or : (P : ℕ → Type 0) (n : ℕ) (xs : List ℕ) → P 0 → All P xs → P (unwrap_or (nth n xs) 0)
nth-is_or P zero xs h k = h
nth-is_or P (suc n) xs h k = from_get (slice_get xs n) refl
  where
    from_get : (o : Option ℕ) → slice_get xs n ≡ o → P (unwrap_or o 0)
    from_get None e = h
    from_get (Some x) e = subst P (get_or_from_slice_get xs n x x e) (k n x (slice_get_within xs n x e))

-- the start of a word before a place
pub record IsBefore (text : List ℕ) (pos place : ℕ) : Type 0 where
  pub before : place ≤ pos
  pub boundary : IsCharBoundary text place

pub IsBefore-start_before : (text : List ℕ) (pos : ℕ) (sense : Word) (n : ℕ) → IsUtf8 text → IsCharBoundary text pos
    → IsBefore text pos (start_before sense n (placed_clusters (take pos text)))
IsBefore-start_before text pos sense n u bound =
    let front = IsUtf8-take text pos u bound in
    let P : ℕ → Type 0 = IsCharBoundary (take pos text) in
    let xs = stops Start sense (placed_clusters (take pos text)) in
    let cut = nth-is_or P n (reverse xs) (IsCharBoundary-start (take pos text) front) (All-reverse P xs (All-stops P Start sense _ (All-places (take pos text) front))) in
    let at = start_before sense n (placed_clusters (take pos text)) in
    let within : at ≤ pos = omega (arith, cut.0, length-take-le pos text bound.0) in
    record { before = within; boundary = IsCharBoundary-in_front text pos at u bound.0 within (IsUtf8-take (take pos text) at front cut) }

member-is : (P : ℕ → Type 0) (pieces : List PlacedCluster) → All (λ x. P x.0) pieces → IfSome (first_member pieces) P
member-is P [] h = tt
member-is P (x ∷ xs) h = from (is_word Emacs x.1) (member-is P xs (All-tail (λ x. P x.0) x xs h))
  where
    from : (b : Bool) → IfSome (first_member xs) P → IfSome (option_map (λ piece. piece.0) (cond b (Some x) (find (λ piece. is_word Emacs piece.1) xs))) P
    from true rest = All-head (λ x. P x.0) x xs h
    from false rest = rest

pub IsCharBoundary-member : (text : List ℕ) (place : ℕ) → IsUtf8 text → Some place ≡ first_member (placed_clusters text) → IsCharBoundary text place
IsCharBoundary-member text place u e = subst (λ o. IfSome o (IsCharBoundary text)) (sym e) (member-is (IsCharBoundary text) (placed_clusters text) (All-places text u))

-- that 0 is a boundary of a text
pub ruleset starting = (IsCharBoundary-start)
