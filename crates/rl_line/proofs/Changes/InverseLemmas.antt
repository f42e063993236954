-- Entries and their inverses: what takes an entry back, and the text that entries lead to.
use Rattle.rl_line.proofs.Common.{Bool, Changed, Deletion, Entry, Event, Insertion, IsSome, IsUtf8, Kind, List, None, Option, Replacement, Some, [], add-one, ap, cond, drop, drop-cons, event_of, events_ahead, false, get_or, has_change, inverse, is_change, length, map, map-append, opposite, option_and_then, or-false, or-true, or_assoc, refl, replay, replay_entries, reverse, reverse-append, subst, suc, swapped, sym, true, unwind, ℕ, ◌++◌, ◌+◌, ◌<◌, ◌||◌, ◌∙◌, ◌∷◌, ◌≡◌}
use Rattle.rl_base.proofs.Texts.SwapLemmas.{Swaps-Replace, Swaps-back, apply-IsUtf8, apply-Replace-Swaps}
use Rattle.rl_base.specs.Event.{apply}

-- what was made of a value that is there
pub through : {A B : Type 0} (f : A → Option B) (o : Option A) (b : B) → option_and_then f o ≡ Some b → (a : A) × (o ≡ Some a) × (f a ≡ Some b)
through f None b h = cc
through f (Some a) b h = (a, refl, h)

pub value_of : {A : Type 0} (o : Option A) → IsSome o → (a : A) × (o ≡ Some a)
value_of None h = cc
value_of (Some a) h = (a, refl)

pub IsSome-through : {A B : Type 0} (f : A → Option B) (o : Option A) → IsSome (option_and_then f o) → IsSome o
IsSome-through f None h = h
IsSome-through f (Some a) h = refl

-- a value that is taken as it is
pub then_some : {A : Type 0} (o : Option A) → option_and_then (λ (a : A). Some a) o ≡ o
then_some None = refl
then_some (Some a) = refl

-- what is made of a value in one go is made of it in two
pub then_both : {A B C : Type 0} (f : A → Option C) (g : A → Option B) (h : B → Option C) → ((a : A) → f a ≡ option_and_then h (g a)) → (o : Option A)
    → option_and_then f o ≡ option_and_then h (option_and_then g o)
then_both f g h e None = refl
then_both f g h e (Some a) = e a

-- an entry is taken back by its inverse
pub inverse-undoes : (e : Entry) (x y : List ℕ) → IsUtf8 x → apply (event_of e) x ≡ Some y → apply (event_of (inverse e)) y ≡ Some x
unfolding apply
inverse-undoes (Changed k c) x y u h = apply-Replace-Swaps y x c.place c.new c.old (Swaps-back x y c.place c.old c.new (Swaps-Replace x y c.place c.old c.new u h))
inverse-undoes mark x y u h = sym h

swapped-swapped : (ps : Option (ℕ × ℕ)) → swapped (swapped ps) ≡ ps
swapped-swapped None = refl
swapped-swapped (Some p) = refl

opposite-opposite : (k : Kind) → opposite (opposite k) ≡ k
opposite-opposite Insertion = refl
opposite-opposite Deletion = refl
opposite-opposite Replacement = refl

pub inverse-inverse : (e : Entry) → inverse (inverse e) ≡ e
inverse-inverse (Changed k c) = rw (opposite-opposite k, swapped-swapped c.cursors) refl
inverse-inverse mark = refl

pub undoes-inverse : (e : Entry) (x y : List ℕ) → IsUtf8 y → apply (event_of (inverse e)) y ≡ Some x → apply (event_of e) x ≡ Some y
undoes-inverse e x y u h = ap (λ k. apply (event_of k) x) (sym (inverse-inverse e)) ∙ inverse-undoes (inverse e) y x u h

pub replay-IsUtf8 : (es : List Entry) (x y : List ℕ) → IsUtf8 x → replay_entries es x ≡ Some y → IsUtf8 y
replay-IsUtf8 [] x y u h = let e : x ≡ y = cc in subst IsUtf8 e u
replay-IsUtf8 (e ∷ es) x y u h = let p = through (replay_entries es) (apply (event_of e) x) y h in replay-IsUtf8 es p.0 y (apply-IsUtf8 (event_of e) x p.0 u p.1) p.2

pub unwind-IsUtf8 : (es : List Entry) (y x : List ℕ) → IsUtf8 y → unwind es y ≡ Some x → IsUtf8 x
unwind-IsUtf8 [] y x u h = let e : y ≡ x = cc in subst IsUtf8 e u
unwind-IsUtf8 (e ∷ es) y x u h =
    let p = through (apply (event_of (inverse e))) (unwind es y) x h in apply-IsUtf8 (event_of (inverse e)) p.0 x (unwind-IsUtf8 es y p.0 u p.1) p.2

-- entries that lead from x to y are unwound from y to x
pub unwind-replay : (es : List Entry) (x y : List ℕ) → IsUtf8 x → replay_entries es x ≡ Some y → unwind es y ≡ Some x
unwind-replay [] x y u h = sym h
unwind-replay (e ∷ es) x y u h =
    let p = through (replay_entries es) (apply (event_of e) x) y h in
    ap (option_and_then (apply (event_of (inverse e)))) (unwind-replay es p.0 y (apply-IsUtf8 (event_of e) x p.0 u p.1) p.2) ∙ inverse-undoes e x p.0 u p.1

-- and the other way
pub replay-unwind : (es : List Entry) (y x : List ℕ) → IsUtf8 y → unwind es y ≡ Some x → replay_entries es x ≡ Some y
replay-unwind [] y x u h = sym h
replay-unwind (e ∷ es) y x u h =
    let p = through (apply (event_of (inverse e))) (unwind es y) x h in
    ap (option_and_then (replay_entries es)) (undoes-inverse e x p.0 (unwind-IsUtf8 es y p.0 u p.1) p.2) ∙ replay-unwind es y p.0 u p.1

pub unwind-append : (xs ys : List Entry) (text : List ℕ) → unwind (xs ++ ys) text ≡ option_and_then (unwind xs) (unwind ys text)
unwind-append [] ys text = sym (then_some (unwind ys text))
unwind-append (x ∷ xs) ys text =
    ap (option_and_then (apply (event_of (inverse x)))) (unwind-append xs ys text) ∙ sym (then_both (unwind (x ∷ xs)) (unwind xs) (apply (event_of (inverse x))) (λ t. refl) (unwind ys text))

pub events-append : (xs ys : List Event) (text : List ℕ) → replay (xs ++ ys) text ≡ option_and_then (replay ys) (replay xs text)
events-append [] ys text = refl
events-append (x ∷ xs) ys text = then_both (replay (xs ++ ys)) (replay xs) (replay ys) (λ t. events-append xs ys t) (apply x text)

pub replay-append : (xs ys : List Entry) (text : List ℕ) → replay_entries (xs ++ ys) text ≡ option_and_then (replay_entries ys) (replay_entries xs text)
replay-append xs ys text = ap (λ l. replay l text) (map-append event_of xs ys) ∙ events-append (events_ahead xs) (events_ahead ys) text

-- ---- joining
pub if_some : {A : Type 0} (b : Bool) (a c : A) → cond b (Some a) None ≡ Some c → (b ≡ true) × (a ≡ c)
if_some true a c h = (refl, cc)
if_some false a c h = cc

pub read-first : {A B : Type 0} (f : A → B) (xs : List A) (m : ℕ) (x : A) → m < length xs → x ≡ get_or xs m x → map f (drop m xs) ≡ f x ∷ map f (drop (m + 1) xs)
read-first f xs m x lt e =
    ap (map f) (drop-cons xs m x lt) ∙ ap (λ y. f y ∷ map f (drop (suc m) xs)) (sym e) ∙ ap (λ k. f x ∷ map f (drop k xs)) (sym (add-one m))

pub map-reverse : {A B : Type 0} (f : A → B) (xs : List A) → map f (reverse xs) ≡ reverse (map f xs)
map-reverse f [] = refl
map-reverse f (x ∷ xs) =
    ap (map f) (reverse-append (x ∷ []) xs) ∙ map-append f (reverse xs) (x ∷ []) ∙ ap (λ ys. ys ++ f x ∷ []) (map-reverse f xs) ∙ sym (reverse-append (f x ∷ []) (map f xs))

pub has_change-append : (xs ys : List Entry) → has_change (xs ++ ys) ≡ has_change xs || has_change ys
has_change-append [] ys = refl
has_change-append (x ∷ xs) ys = ap (λ b. is_change x || b) (has_change-append xs ys) ∙ sym (or_assoc (is_change x) (has_change xs) (has_change ys))

pub turned-cons : (e : Entry) (es : List Entry) → map inverse (reverse (e ∷ es)) ≡ map inverse (reverse es) ++ inverse e ∷ []
turned-cons e es = ap (map inverse) (reverse-append (e ∷ []) es) ∙ map-append inverse (reverse es) (e ∷ [])

-- entries that are turned round twice
pub turned-turned : (es : List Entry) → map inverse (reverse (map inverse (reverse es))) ≡ es
turned-turned [] = refl
turned-turned (e ∷ es) =
    ap (λ l. map inverse (reverse l)) (turned-cons e es) ∙ ap (map inverse) (reverse-append (map inverse (reverse es)) (inverse e ∷ []))
    ∙ ap (λ f. f ∷ map inverse (reverse (map inverse (reverse es)))) (inverse-inverse e) ∙ ap (λ l. e ∷ l) (turned-turned es)

-- they hold a change where they did
pub has_change-turned : (es : List Entry) → has_change (map inverse (reverse es)) ≡ has_change es
has_change-turned [] = refl
has_change-turned (e ∷ es) =
    ap has_change (turned-cons e es) ∙ has_change-append (map inverse (reverse es)) (inverse e ∷ [])
    ∙ ap (λ b. b || has_change (inverse e ∷ [])) (has_change-turned es) ∙ last e
  where
    last : (e : Entry) → has_change es || has_change (inverse e ∷ []) ≡ has_change (e ∷ es)
    last (Changed k c) = or-true (has_change es)
    last mark = or-false (has_change es)
