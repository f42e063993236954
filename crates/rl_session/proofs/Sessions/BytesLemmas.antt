-- Bytes with their checksum, and the parts of a session as bytes.
use Rattle.rl_session.proofs.Common.{◌≡◌, ◌∙◌, ◌∷◌, ◌==◌, ap₂, eqb-true, nil_from_length, true, ◌++◌, get_or, ◌+◌, ◌-◌, ◌^◌, ◌≤◌, min, [], ℕ, List, ap, append-nil, append_assoc, arith, drop, length, length-append, refl, sym, take}
use Rattle.std.proofs.lemmas.List.{drop_at, take_at}
use Rattle.rl_base.specs.SavedRing.{saved_ring}
use Rattle.rl_base.specs.Saving.{numbers}
use Rattle.rl_base.specs.declared.saving.Width.TheVariants.{Eight}
use Rattle.rl_base.proofs.Texts.SavingLemmas.{length-numbers}
use Rattle.rl_record.specs.SavedRecord.{saved_record}
use Rattle.rl_session.specs.SavedSession.{checksum, heading, line_numbers, option_numbers, saved_line, saved_session, saved_state, sealed, state_numbers}
use Rattle.rl_session.specs.State.{State}

length-checksum : (bytes : List ℕ) → length (checksum bytes) ≡ 8
unfolding checksum
length-checksum bytes = refl

-- a checksum has 8 bytes, and is that of what stands before it
pub checked-parts : (bytes front : List ℕ) → bytes ≡ front ++ checksum front
    → (8 ≤ length bytes) × (take (length bytes - 8) bytes ≡ front) × (drop (length bytes - 8) bytes ≡ checksum front)
checked-parts bytes front is =
    let len = ap length is ∙ length-append front (checksum front) in
    let at : length front ≡ length bytes - 8 = omega (arith, len, length-checksum front) in (
      omega (arith, len, length-checksum front),
      ap (take (length bytes - 8)) is ∙ take_at front (checksum front) (length bytes - 8) at,
      ap (drop (length bytes - 8)) is ∙ drop_at front (checksum front) (length bytes - 8) at,
    )

pub ruleset checking = (checked-parts)

-- so one text alone stands before it
pub checked-one : (bytes front other : List ℕ) → bytes ≡ front ++ checksum front → bytes ≡ other ++ checksum other → front ≡ other
checked-one bytes front other is also = sym (checked-parts bytes front is).1 ∙ (checked-parts bytes other also).1

pub sealed-one : (bytes inside other : List ℕ) → bytes ≡ sealed inside → bytes ≡ sealed other → inside ≡ other
unfolding sealed
sealed-one bytes inside other is also = ap (drop 8) (checked-one bytes (heading ++ inside) (heading ++ other) is also)

pub sealed-begins : (bytes inside : List ℕ) → bytes ≡ sealed inside → (after : List ℕ) × (bytes ≡ heading ++ after)
unfolding sealed
sealed-begins bytes inside is = (inside ++ checksum (heading ++ inside), is ∙ append_assoc heading inside (checksum (heading ++ inside)))

-- how long a saved session is
pub session-length : (s : State) (ring changes parts more len : ℕ) → ring ≡ min (length (saved_ring s.pair.ring)) (2 ^ 64 - 1)
    → changes ≡ min (length (saved_record s.pair.changes)) (2 ^ 64 - 1) → parts ≡ min (ring + changes) (2 ^ 64 - 1)
    → more ≡ min (parts + length s.line.text) (2 ^ 64 - 1) → len ≡ min (more + 88) (2 ^ 64 - 1) → len ≡ min (length (saved_session s)) (2 ^ 64 - 1)
unfolding sealed saved_state saved_line
session-length s ring changes parts more len r c p m is =
    let text = numbers Eight (state_numbers s) ++ s.line.text in
    let inside = text ++ (saved_ring s.pair.ring ++ saved_record s.pair.changes) in
    omega (
      arith,
      r,
      c,
      p,
      m,
      is,
      length-append (heading ++ inside) (checksum (heading ++ inside)),
      length-checksum (heading ++ inside),
      length-append heading inside,
      length-append text (saved_ring s.pair.ring ++ saved_record s.pair.changes),
      length-append (numbers Eight (state_numbers s)) s.line.text,
      length-append (saved_ring s.pair.ring) (saved_record s.pair.changes),
      length-numbers Eight (state_numbers s),
    )

-- the parts stand one after another, and nothing after them
pub parts : (s : State) (bytes : List ℕ) → bytes ≡ saved_state s → bytes ≡ saved_line s ++ (saved_ring s.pair.ring ++ (saved_record s.pair.changes ++ []))
unfolding saved_state
parts s bytes is = is ∙ ap (λ xs. saved_line s ++ (saved_ring s.pair.ring ++ xs)) (sym (append-nil (saved_record s.pair.changes)))

-- the numbers of a state, of those of its line, of its options and of its text
pub numbers-read : (head : List ℕ) (s : State) → length head ≡ 9 → line_numbers s.line ≡ take 2 head → option_numbers s.options ≡ take 6 (drop 2 head)
    → length s.line.text ≡ get_or head 8 0 → state_numbers s ≡ head
numbers-read (a ∷ (b ∷ (c ∷ (d ∷ (e ∷ (f ∷ (g ∷ (h ∷ (i ∷ []))))))))) s len l o t = ap (λ xs. xs ++ (option_numbers s.options ++ length s.line.text ∷ [])) l ∙ ap (λ xs. a ∷ b ∷ (xs ++ length s.line.text ∷ [])) o ∙ ap (λ n. a ∷ b ∷ c ∷ d ∷ e ∷ f ∷ g ∷ h ∷ n ∷ []) t
numbers-read _ s len l o t = absurd (omega (arith, len))

-- so what was read is what is saved
pub line-saved : (s : State) (bytes next rest head text : List ℕ) → bytes ≡ numbers Eight head ++ next → next ≡ text ++ rest → state_numbers s ≡ head → s.line.text ≡ text
    → bytes ≡ saved_line s ++ rest
unfolding saved_line
line-saved s bytes next rest head text first then_text numbers_are text_is =
    first ∙ ap (λ xs. numbers Eight head ++ xs) then_text ∙ sym (append_assoc (numbers Eight head) text rest)
    ∙ ap₂ (λ ns t. (numbers Eight ns ++ t) ++ rest) (sym numbers_are) (sym text_is)

pub parts-saved : (s : State) (bytes ring changes rest : List ℕ) → bytes ≡ saved_line s ++ ring → ring ≡ saved_ring s.pair.ring ++ changes → changes ≡ saved_record s.pair.changes ++ rest
    → (length rest == 0) ≡ true → bytes ≡ saved_state s
unfolding saved_state
parts-saved s bytes ring changes rest l r c none =
    let end = nil_from_length rest (eqb-true (length rest) 0 none) in
    l ∙ ap (λ xs. saved_line s ++ xs) (r ∙ ap (λ xs. saved_ring s.pair.ring ++ xs) (c ∙ ap (λ xs. saved_record s.pair.changes ++ xs) end ∙ append-nil (saved_record s.pair.changes)))
