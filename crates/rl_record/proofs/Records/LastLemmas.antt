-- The last entry of a list: what an event, the end of a group and cursors that are told make of it. All before it stays.
use Rattle.rl_record.proofs.Common.{Begin, End, Entry, Event, Freshness, List, None, Option, Some, [], ap, append-nil, append_assoc, arith, cursors_of, end_one, end_times, ends_in_begin, ends_in_end, entries_after, entries_of, entries_told, false, freshness_added, freshness_joined, freshness_of, freshness_told, get_or, inl, inr, is_end, is_parted, joined, joined_in, last_told, length, length-append, map, map-append, option_map_or, refl, subst, suc, sym, take, take_at, take_at_read, true, zero, ℕ, ◌++◌, ◌+◌, ◌-◌, ◌<◌, ◌∙◌, ◌∷◌, ◌≡◌, ◌⊎◌}
use Rattle.rl_record.specs.declared.joining.Freshness.TheVariants as is

-- what holds of no elements, and of any that end with one, holds of all lists
pub by_last : {A : Type 0} (P : List A → Type 0) → P [] → ((front : List A) (x : A) → P (front ++ x ∷ [])) → (xs : List A) → P xs
by_last P none last [] = none
by_last P none last (x ∷ xs) = by_last (λ ys. P (x ∷ ys)) (last [] x) (λ front y. last (x ∷ front) y) xs

-- the first elements with the last of them, and those from a place on with the first
pub read-last : {A B : Type 0} (f : A → B) (xs : List A) (m : ℕ) (z x : A) → m < length xs → get_or xs m z ≡ x → map f (take (m + 1) xs) ≡ map f (take m xs) ++ f x ∷ []
read-last f xs m z x lt e = ap (map f) ((take_at_read xs m z lt).1 ∙ ap (λ y. take m xs ++ y ∷ []) e) ∙ map-append f (take m xs) (x ∷ [])

-- a function that passes the first of two entries passes all before the last ones
pub passes : (f : List Entry → List Entry) → ((e d : Entry) (ds : List Entry) → f (e ∷ (d ∷ ds)) ≡ e ∷ f (d ∷ ds)) → (xs : List Entry) (y : Entry) (ys : List Entry)
    → f (xs ++ y ∷ ys) ≡ xs ++ f (y ∷ ys)
passes f pass [] y ys = refl
passes f pass (x ∷ []) y ys = pass x y ys
passes f pass (x ∷ (z ∷ zs)) y ys = pass x z (zs ++ y ∷ ys) ∙ ap (λ l. x ∷ l) (passes f pass (z ∷ zs) y ys)

pub skips : {A : Type 0} (f : List Entry → A) → ((e d : Entry) (ds : List Entry) → f (e ∷ (d ∷ ds)) ≡ f (d ∷ ds)) → (xs : List Entry) (y : Entry) (ys : List Entry)
    → f (xs ++ y ∷ ys) ≡ f (y ∷ ys)
skips f skip [] y ys = refl
skips f skip (x ∷ []) y ys = skip x y ys
skips f skip (x ∷ (z ∷ zs)) y ys = skip x z (zs ++ y ∷ ys) ∙ skips f skip (z ∷ zs) y ys

-- ---- an event
pub after-past : (fresh : Freshness) (event : Event) (xs : List Entry) (y : Entry) (ys : List Entry)
    → entries_after fresh event (xs ++ y ∷ ys) ≡ xs ++ entries_after fresh event (y ∷ ys)
after-past fresh event = passes (entries_after fresh event) (λ e d ds. refl)

pub fresh-past : (fresh : Freshness) (event : Event) (xs : List Entry) (y : Entry) (ys : List Entry)
    → freshness_of fresh event (xs ++ y ∷ ys) ≡ freshness_of fresh event (y ∷ ys)
fresh-past fresh event = skips (freshness_of fresh event) (λ e d ds. refl)

-- what joins in a record joins
pub joined_in-joined : (fresh : Freshness) (event : Event) (e joint : Entry) → joined_in fresh event e ≡ Some joint → joined event e ≡ Some joint
joined_in-joined is.Parted event e joint h = cc
joined_in-joined is.Stale event e joint h = h
joined_in-joined is.Added event e joint h = h
joined_in-joined (is.Joined p) event e joint h = h

-- where a record is not parted, what joins is the same as alone, and where it is, nothing joins
pub joined_in-as : (fresh : Freshness) (event : Event) (e : Entry) → is_parted fresh ≡ false → joined_in fresh event e ≡ joined event e
joined_in-as is.Parted event e h = cc
joined_in-as is.Stale event e h = refl
joined_in-as is.Added event e h = refl
joined_in-as (is.Joined p) event e h = refl

-- what holds where an event adds its entries, and where it joins the last entry, holds after any event
pub after-cases : (was : Freshness) (event : Event) (P : List Entry → List Entry → Freshness → Type 0)
    → ((es : List Entry) → P es (es ++ entries_of event) (freshness_added was (entries_of event)))
    → ((front : List Entry) (e joint : Entry) → joined event e ≡ Some joint → P (front ++ e ∷ []) (front ++ joint ∷ []) (freshness_joined (cursors_of e)))
    → (es : List Entry) → P es (entries_after was event es) (freshness_of was event es)
after-cases was event P adds joins [] = adds []
after-cases was event P adds joins (e ∷ []) = from (joined_in was event e) refl
  where
    from : (o : Option Entry) → joined_in was event e ≡ o
        → P (e ∷ []) (option_map_or (λ joint. joint ∷ []) o (e ∷ entries_of event)) (option_map_or (λ _. freshness_joined (cursors_of e)) o (freshness_added was (entries_of event)))
    from None h = adds (e ∷ [])
    from (Some joint) h = joins [] e joint (joined_in-joined was event e joint h)
after-cases was event P adds joins (e ∷ (d ∷ ds)) =
    after-cases was event (λ xs ys fresh. P (e ∷ xs) (e ∷ ys) fresh) (λ es. adds (e ∷ es)) (λ front l joint h. joins (e ∷ front) l joint h) (d ∷ ds)

-- an event joins no entry
abbrev pub IsApart : Freshness → Event → List Entry → Type 0
IsApart was event es = (entries_after was event es ≡ es ++ entries_of event) × (freshness_of was event es ≡ freshness_added was (entries_of event))

-- an event after entries that end with e, where o is the one entry for both, if there is one
abbrev pub EndsIn : Freshness → Event → List Entry → List Entry → Entry → Option Entry → Type 0
EndsIn was event es front e None = IsApart was event es
EndsIn was event es front e (Some joint) = (entries_after was event es ≡ front ++ joint ∷ []) × (freshness_of was event es ≡ freshness_joined (cursors_of e))

pub ends_in : (was : Freshness) (event : Event) (es front : List Entry) (e : Entry) (o : Option Entry) → es ≡ front ++ e ∷ [] → joined_in was event e ≡ o → EndsIn was event es front e o
ends_in was event es front e o is h =
    subst (λ (l : List Entry). EndsIn was event l front e o) (sym is) (by_join o (ap made h) (ap told h))
  where
    made : Option Entry → List Entry
    made k = option_map_or (λ joint. joint ∷ []) k (e ∷ entries_of event)

    told : Option Entry → Freshness
    told k = option_map_or (λ _. freshness_joined (cursors_of e)) k (freshness_added was (entries_of event))

    by_join : (k : Option Entry) → entries_after was event (e ∷ []) ≡ made k → freshness_of was event (e ∷ []) ≡ told k → EndsIn was event (front ++ e ∷ []) front e k
    by_join None m t = (after-past was event front e [] ∙ ap (λ es. front ++ es) m ∙ sym (append_assoc front (e ∷ []) (entries_of event)), fresh-past was event front e [] ∙ t)
    by_join (Some joint) m t = (after-past was event front e [] ∙ ap (λ es. front ++ es) m, fresh-past was event front e [] ∙ t)

-- after a part no event joins
pub alone-parted : (event : Event) (es : List Entry) → IsApart is.Parted event es
alone-parted event [] = (refl, refl)
alone-parted event (e ∷ []) = (refl, refl)
alone-parted event (e ∷ (d ∷ ds)) = let rest = alone-parted event (d ∷ ds) in (ap (λ l. e ∷ l) rest.0, rest.1)

pub parted-apart : (was : Freshness) (event : Event) (es : List Entry) → is_parted was ≡ true → IsApart was event es
parted-apart is.Parted event es h = alone-parted event es
parted-apart is.Stale event es h = cc
parted-apart is.Added event es h = cc
parted-apart (is.Joined p) event es h = cc

-- an event that joins nothing
pub joins_nothing : (was : Freshness) (event : Event) → ((e : Entry) → joined event e ≡ None) → (es : List Entry) → IsApart was event es
joins_nothing was event none es =
    after-cases was event (λ xs ys fresh. (ys ≡ xs ++ entries_of event) × (fresh ≡ freshness_added was (entries_of event))) (λ xs. (refl, refl))
    (λ front e joint h. let no : None ≡ Some joint = sym (none e) ∙ h in cc) es

-- ---- cursors that are told
pub last_told-past : (cursors : ℕ × ℕ) (xs : List Entry) (y : Entry) (ys : List Entry) → last_told cursors (xs ++ y ∷ ys) ≡ xs ++ last_told cursors (y ∷ ys)
last_told-past cursors = passes (last_told cursors) (λ e d ds. refl)

pub told-past : (fresh : Freshness) (b a : ℕ) (xs : List Entry) (y : Entry) (ys : List Entry) → entries_told fresh b a (xs ++ y ∷ ys) ≡ xs ++ entries_told fresh b a (y ∷ ys)
told-past is.Stale b a xs y ys = refl
told-past is.Parted b a xs y ys = refl
told-past is.Added b a xs y ys = last_told-past (b, a) xs y ys
told-past (is.Joined p) b a xs y ys = last_told-past (p, a) xs y ys

-- where none may be told, none are
pub told-none : (fresh : Freshness) (b a : ℕ) (es : List Entry) → entries_told (freshness_told fresh) b a es ≡ es
told-none is.Stale b a es = refl
told-none is.Parted b a es = refl
told-none is.Added b a es = refl
told-none (is.Joined p) b a es = refl

pub told-twice : (fresh : Freshness) → freshness_told (freshness_told fresh) ≡ freshness_told fresh
told-twice is.Stale = refl
told-twice is.Parted = refl
told-twice is.Added = refl
told-twice (is.Joined p) = refl

pub told-added : (was : Freshness) (es ys : List Entry) (b a : ℕ) → entries_told (freshness_added was ys) b a (es ++ ys) ≡ es ++ entries_told (freshness_added was ys) b a ys
told-added was es [] b a = told-none was b a (es ++ []) ∙ ap (λ ks. es ++ ks) (sym (told-none was b a []))
told-added was es (y ∷ ys) b a = told-past is.Added b a es y ys

-- ---- the end of a group
pub end_one-past : (xs : List Entry) (y : Entry) (ys : List Entry) → end_one (xs ++ y ∷ ys) ≡ xs ++ end_one (y ∷ ys)
end_one-past = passes end_one (λ e d ds. refl)

pub ends-past : (xs : List Entry) (y : Entry) (ys : List Entry) → ends_in_begin (xs ++ y ∷ ys) ≡ ends_in_begin (y ∷ ys)
ends-past = skips ends_in_begin (λ e d ds. refl)

-- all but the last
pub but_last : (xs : List Entry) (y : Entry) → take (length (xs ++ y ∷ []) - 1) (xs ++ y ∷ []) ≡ xs
but_last xs y = take_at xs (y ∷ []) (length (xs ++ y ∷ []) - 1) (omega (arith, length-append xs (y ∷ [])))

-- entries that end with an End, without it
pub record EndsInEnd (es : List Entry) : Type 0 where
  pub front : List Entry
  pub is : es ≡ front ++ End ∷ []
  pub cut : take (length es - 1) es ≡ front

pub end-last : (es : List Entry) → ends_in_end es ≡ true → EndsInEnd es
end-last = by_last (λ es. ends_in_end es ≡ true → EndsInEnd es) (λ h. cc) (λ front e h. from front e (sym (end-past front e) ∙ h))
  where
    end-past : (front : List Entry) (e : Entry) → ends_in_end (front ++ e ∷ []) ≡ is_end e
    end-past front e = skips ends_in_end (λ e d ds. refl) front e []

    from : (front : List Entry) (e : Entry) → is_end e ≡ true → EndsInEnd (front ++ e ∷ [])
    from front End h = record { front = front; is = refl; cut = but_last front End }
    from front e h = cc

pub end-added : (es : List Entry) → ends_in_end (es ++ End ∷ []) ≡ true
end-added es = skips ends_in_end (λ e d ds. refl) es End []

-- a Begin at the end is what an end takes off
pub end_one-begin : (es : List Entry) → end_one (es ++ Begin ∷ []) ≡ es
end_one-begin es = end_one-past es Begin [] ∙ append-nil es

pub record EndsOne (es : List Entry) : Type 0 where
  pub front : List Entry
  pub list_is : es ≡ front ++ (Begin ∷ [])
  pub after_is : end_one es ≡ front

-- and after any other entry it adds an End
pub record AddsEnd (es : List Entry) : Type 0 where
  pub other : ends_in_begin es ≡ false
  pub after_is : end_one es ≡ es ++ (End ∷ [])

pub end_one-cases : (es : List Entry) → EndsOne es ⊎ AddsEnd es
end_one-cases = by_last (λ es. EndsOne es ⊎ AddsEnd es) (inr (record { other = refl; after_is = refl })) from
  where
    adds : (front : List Entry) (e : Entry) → ends_in_begin (e ∷ []) ≡ false → end_one (e ∷ []) ≡ e ∷ (End ∷ []) → AddsEnd (front ++ e ∷ [])
    adds front e other after = record {
      other = ends-past front e [] ∙ other;
      after_is = end_one-past front e [] ∙ ap (λ es. front ++ es) after ∙ sym (append_assoc front (e ∷ []) (End ∷ []));
    }

    from : (front : List Entry) (e : Entry) → EndsOne (front ++ e ∷ []) ⊎ AddsEnd (front ++ e ∷ [])
    from front Begin = inl (record { front = front; list_is = refl; after_is = end_one-begin front })
    from front e = inr (adds front e refl refl)

-- what the end of one group keeps, that of any number does
pub end_times-keeps : (P : List Entry → Type 0) → ((es : List Entry) → P es → P (end_one es)) → (n : ℕ) (es : List Entry) → P es → P (end_times n es)
end_times-keeps P keeps zero es p = p
end_times-keeps P keeps (suc n) es p = end_times-keeps P keeps n (end_one es) (keeps es p)
