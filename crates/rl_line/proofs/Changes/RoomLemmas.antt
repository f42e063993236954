-- Going over a record needs room only where a text on the way needs more than the first.
use Rattle.rl_line.proofs.Common.{Any, Any-push, Bool, Change, Changed, Entry, Event, IsSome, IsUtf8, Line, List, NeedsRoom, None, Option, Some, Way, [], ap, arith, bytes_ahead, bytes_back, cases_lt, common_steps, drop, drop-map, drop_all, entry_to_undo, event_of, false, get_or, get_or-append, greatest_back_over, inl, inr, inverse, le-leb, leb, length, length-append, length_back, length_back_over, line_back, lt-leb, map, map-append, map-map, max, nat_lt, nat_tests, new_text, old_text, option_and_then, refl, replay, reverse, reverse-append, subst, suc, sym, take, texts_after, texts_ahead, texts_back, true, unwind, zero, ℕ, ◌++◌, ◌+◌, ◌-◌, ◌<◌, ◌^◌, ◌∙◌, ◌∷◌, ◌≡◌, ◌≤◌}
use Rattle.rl_base.proofs.Texts.SwapLemmas.{Swaps, Swaps-Replace}
use Rattle.rl_base.specs.Event.{apply}
use Rattle.rl_line.proofs.Changes.BackLemmas.{IsBack-fits, IsBack-next, IsBack-none, entries_from, length_back_over-within, line_back-unwind}
use Rattle.rl_line.proofs.Changes.ChangeLemmas.{GoesOver-astray, GoesOver-next, GoesOver-not, length-order, longer-by}
use Rattle.rl_line.proofs.Changes.GoingLemmas.{back-one_more, cursor-gone}
use Rattle.rl_line.proofs.Changes.InverseLemmas.{through, turned-cons, turned-turned, unwind-IsUtf8, value_of}

pub length-swapped : (text after : List ℕ) (i : ℕ) (old new : List ℕ) → Swaps text after i old new → length after ≡ (length text - length old) + length new
length-swapped text after i old new s = grind (arith, common_steps)

-- the length of the text before an entry
pub length_back-is : (e : Entry) (text now : List ℕ) → IsUtf8 text → apply (event_of (inverse e)) text ≡ Some now → length now ≡ length_back e (length text)
unfolding apply
length_back-is (Changed j c) text now u h = length-swapped text now c.place c.new c.old (Swaps-Replace text now c.place c.new c.old u h)
length_back-is mark text now u h = let e : text ≡ now = cc in omega (arith, ap length e)

pub length_back_over-is : (es : List Entry) (text now : List ℕ) → IsUtf8 text → unwind es text ≡ Some now → length now ≡ length_back_over es (length text)
length_back_over-is [] text now u h = let e : text ≡ now = cc in ap length (sym e)
length_back_over-is (e ∷ es) text now u h =
    let p = through (apply (event_of (inverse e))) (unwind es text) now h in
    length_back-is e p.0 now (unwind-IsUtf8 es text p.0 u p.1) p.2 ∙ ap (length_back e) (length_back_over-is es text p.0 u p.1)

pub texts_after-more : (x : Event) (xs : List Event) (text next : List ℕ) → apply x text ≡ Some next → texts_after (x ∷ xs) text ≡ next ∷ texts_after xs next
texts_after-more x xs text next h = ap (λ (o : Option (List ℕ)). elim o [ None ↦ [] | Some t ↦ t ∷ texts_after xs t ]) h

texts_after-append : (xs ys : List Event) (text mid : List ℕ) → replay xs text ≡ Some mid → texts_after (xs ++ ys) text ≡ texts_after xs text ++ texts_after ys mid
texts_after-append [] ys text mid h = let e : text ≡ mid = cc in ap (texts_after ys) e
texts_after-append (x ∷ xs) ys text mid h =
    let p = through (replay xs) (apply x text) mid h in
    texts_after-more x (xs ++ ys) text p.0 p.1 ∙ ap (λ l. p.0 ∷ l) (texts_after-append xs ys p.0 mid p.2) ∙ ap (λ l. l ++ texts_after ys mid) (sym (texts_after-more x xs text p.0 p.1))

-- the event that takes an entry back
abbrev taking_back : Entry → Event
taking_back e = event_of (inverse e)

replay-append : (xs ys : List Event) (text mid : List ℕ) → replay xs text ≡ Some mid → replay (xs ++ ys) text ≡ replay ys mid
replay-append [] ys text mid h = let e : text ≡ mid = cc in ap (replay ys) e
replay-append (x ∷ xs) ys text mid h =
    let p = through (replay xs) (apply x text) mid h in
    ap (option_and_then (replay (xs ++ ys))) p.1 ∙ replay-append xs ys p.0 mid p.2

back-more : (e : Entry) (es : List Entry) → map taking_back (reverse (e ∷ es)) ≡ map taking_back (reverse es) ++ taking_back e ∷ []
back-more e es = ap (map taking_back) (reverse-append (e ∷ []) es) ∙ map-append taking_back (reverse es) (e ∷ [])

unwind-events : (es : List Entry) (text now : List ℕ) → unwind es text ≡ Some now → replay (map taking_back (reverse es)) text ≡ Some now
unwind-events [] text now h = h
unwind-events (e ∷ es) text now h =
    let p = through (apply (taking_back e)) (unwind es text) now h in
    ap (λ l. replay l text) (back-more e es) ∙ replay-append (map taking_back (reverse es)) (taking_back e ∷ []) text p.0 (unwind-events es text p.0 p.1)
    ∙ ap (option_and_then (replay [])) p.2

texts_back-more : (e : Entry) (es : List Entry) (text mid now : List ℕ) → unwind es text ≡ Some mid → apply (taking_back e) mid ≡ Some now → texts_back (e ∷ es) text ≡ texts_back es text ++ now ∷ []
texts_back-more e es text mid now h makes =
    ap (λ l. texts_after l text) (back-more e es)
    ∙ texts_after-append (map taking_back (reverse es)) (taking_back e ∷ []) text mid (unwind-events es text mid h)
    ∙ ap (λ (o : Option (List ℕ)). texts_back es text ++ elim o [ None ↦ [] | Some next ↦ next ∷ [] ]) makes

Any-left : {X : Type 0} → (P : X → Type 0) (xs ys : List X) → Any P xs → Any P (xs ++ ys)
Any-left P xs ys (k, x, lt, at, p) = (k, x, omega (arith, length-append xs ys, lt), get_or-append xs ys x k lt ∙ at, p)

-- where the greatest length on the way is more than the first, a text on the way needs room
pub NeedsRoom-back : (es : List Entry) (text now : List ℕ) → IsUtf8 text → unwind es text ≡ Some now → length text < greatest_back_over es (length text) → Any (NeedsRoom text) (texts_back es text)
NeedsRoom-back [] text now u h more = absurd (omega (arith, more))
NeedsRoom-back (e ∷ es) text now u h more =
    let p = through (apply (taking_back e)) (unwind es text) now h in
    let size : length now ≡ length_back_over (e ∷ es) (length text) = length_back_over-is (e ∷ es) text now u h in
    subst (Any (NeedsRoom text)) (sym (texts_back-more e es text p.0 now p.1 p.2))
    (by (greatest_back_over es (length text)) (length_back_over (e ∷ es) (length text)) (texts_back es text) size more (NeedsRoom-back es text p.0 u p.1)
    (nat_lt (length text) (greatest_back_over es (length text))) refl)
  where
    by : (before here : ℕ) (texts : List (List ℕ)) → length now ≡ here → length text < max before here → (length text < before → Any (NeedsRoom text) texts)
        → (b : Bool) → nat_lt (length text) before ≡ b → Any (NeedsRoom text) (texts ++ now ∷ [])
    by before here texts size more among true is = Any-left (NeedsRoom text) texts (now ∷ []) (among (grind (arith, nat_tests)))
    by before here texts size more among false is =
        let low : before ≤ length text = grind (arith, nat_tests) in
        Any-push (NeedsRoom text) texts now (omega (arith, size, more, low))

pub NeedsRoom-line : (es : List Entry) (line : Line) → IsUtf8 line.text → IsSome (line_back es line) → length line.text < greatest_back_over es (length line.text)
    → Any (NeedsRoom line.text) (texts_back es line.text)
NeedsRoom-line es line u h more = let p = value_of (line_back es line) h in NeedsRoom-back es line.text p.0.text u (line_back-unwind es line p.0 p.1) more

-- one entry needs room where the text that comes needs more than the one that goes
pub NeedsRoom-one : (e : Entry) (text now : List ℕ) → IsUtf8 text → apply (taking_back e) text ≡ Some now → NeedsRoom (new_text e) (old_text e) → Any (NeedsRoom text) (texts_back (e ∷ []) text)
NeedsRoom-one e text now u makes more =
    subst (Any (NeedsRoom text)) (sym (texts_back-more e [] text text now refl makes)) (Any-push (NeedsRoom text) [] now (omega (arith, length_back-is e text now u makes, more)))

-- the length once one more of the changes is back is one on the way
pub on_the_way : (way : Way) (xs : List Change) (m n long : ℕ) (x : Change) → m < length xs → x ≡ get_or xs m x → long ≡ length_back_over (map (entry_to_undo way) (drop (m + 1) xs)) n
    → length_back (entry_to_undo way x) long ≤ greatest_back_over (map (entry_to_undo way) xs) n
on_the_way way xs m n long x lt e is =
    let same : length_back_over (drop m (map (entry_to_undo way) xs)) n ≡ length_back (entry_to_undo way x) long =
    ap (λ es. length_back_over es n) (drop-map (entry_to_undo way) m xs ∙ entries_from way xs m x lt e) ∙ ap (length_back (entry_to_undo way x)) (sym is) in
    omega (arith, length_back_over-within m (map (entry_to_undo way) xs) n, same)

-- a text keeps to a limit over one change if it does after it
pub within-one : (n going coming limit : ℕ) → n ≤ limit → leb coming (limit - (n - going)) ≡ leb (max n ((n - going) + coming)) limit
within-one n going coming limit le = elim (cases_lt (limit - (n - going)) coming) [
  | inl past ↦ lt-leb coming (limit - (n - going)) past ∙ sym (lt-leb (max n ((n - going) + coming)) limit (omega (arith, le, past)))
  | inr within ↦ le-leb coming (limit - (n - going)) within ∙ sym (le-leb (max n ((n - going) + coming)) limit (omega (arith, le, within)))
]

-- a length past what a usize holds is more than the first
pub past_a_usize : (way : Way) (xs : List Change) (m n long : ℕ) (x : Change) → m < length xs → x ≡ get_or xs m x → long ≡ length_back_over (map (entry_to_undo way) (drop (m + 1) xs)) n
    → n < 2 ^ 64 → 2 ^ 64 ≤ length_back (entry_to_undo way x) long → n < greatest_back_over (map (entry_to_undo way) xs) n
past_a_usize way xs m n long x lt e is fits past = omega (arith, on_the_way way xs m n long x lt e is, fits, past)

-- the texts on the way ahead are those on the way back over the inverses, the last first
pub texts_ahead-back : (es : List Entry) (text : List ℕ) → texts_back (map inverse (reverse es)) text ≡ texts_ahead es text
texts_ahead-back es text =
    ap (λ l. texts_after l text) (sym (map-map event_of inverse (reverse (map inverse (reverse es)))) ∙ ap (map event_of) (turned-turned es))

-- what comes with one of the changes is no more than what comes with all
pub bytes_back-one : (way : Way) (xs : List Change) (m : ℕ) (x : Change) → m < length xs → x ≡ get_or xs m x → 0 < length (old_text (entry_to_undo way x)) → 0 < bytes_back (map (entry_to_undo way) xs)
bytes_back-one way [] m x lt e h = absurd (omega (arith, lt))
bytes_back-one way (y ∷ ys) zero x lt e h = let t = subst (λ z. 0 < length (old_text (entry_to_undo way z))) e h in omega (arith, t)
bytes_back-one way (y ∷ ys) (suc m) x lt e h = omega (arith, bytes_back-one way ys m x (omega (arith, lt)) e h)

pub bytes_back-first : (len : ℕ) (es : List Entry) → bytes_back (take len es) ≤ bytes_back es
bytes_back-first zero es = omega arith
bytes_back-first (suc len) [] = omega arith
bytes_back-first (suc len) (e ∷ es) = omega (arith, bytes_back-first len es)

bytes_back-append : (xs ys : List Entry) → bytes_back (xs ++ ys) ≡ bytes_back xs + bytes_back ys
bytes_back-append [] ys = omega arith
bytes_back-append (x ∷ xs) ys = omega (arith, bytes_back-append xs ys)

old_text-inverse : (e : Entry) → length (old_text (inverse e)) ≡ bytes_ahead (e ∷ [])
old_text-inverse (Changed k c) = omega arith
old_text-inverse mark = refl

pub bytes_ahead-back : (es : List Entry) → bytes_back (map inverse (reverse es)) ≡ bytes_ahead es
bytes_ahead-back [] = refl
bytes_ahead-back (e ∷ es) =
    omega (arith, ap bytes_back (turned-cons e es) ∙ bytes_back-append (map inverse (reverse es)) (inverse e ∷ []), bytes_ahead-back es, old_text-inverse e)

pub ruleset over_all = (GoesOver-astray, GoesOver-next, GoesOver-not, longer-by, bytes_back-one)

pub ruleset back_so_far = (NeedsRoom-line, length_back_over-is, drop-map, drop_all, length-order, back-one_more, cursor-gone, IsBack-none, IsBack-fits, IsBack-next, entries_from, line_back-unwind, length_back_over-within)
