-- Each change of a text replaces one part by another, so it can be taken back.
use Rattle.rl_base.proofs.Common.{◌≡◌, ℕ, ◌+◌, List, [], ◌++◌, length, take, drop, slice_range, Option, Some, None, refl, sym, ap, subst, ◌∙◌, arith, append_assoc, length-append, take_at, drop_at, length-take-le, take-append-drop, nil_from_length, drop_split, same_Some, IsUtf8-nil, IsUtf8-append, IsUtf8-take, IsUtf8-drop, is_utf8-from_IsUtf8, IsSome, encode_utf8, insert_slice, replace_range, IsUtf8, Direction, Event, InsertChar, InsertStr, Delete, Replace, Stop, Cursors, ap₂}
use Rattle.rl_base.specs.Event.{Start, apply}
use Rattle.rl_base.proofs.Texts.EventLemmas.{Deletes-from_IsSome, Inserts-from_IsSome, Replaces-from_IsSome}
use Rattle.rl_base.proofs.Texts.TextLemmas.{StandsAt, fits_at-true, removed-is_replaced, stands_at-true, StandsAt-middle, drop-middle, take-middle}

-- at i, old gives way to new
pub record Swaps (text after : List ℕ) (i : ℕ) (old new : List ℕ) : Type 0 where
  pub front : List ℕ
  pub rest : List ℕ
  pub text_is : text ≡ front ++ (old ++ rest)
  pub after_is : after ≡ front ++ (new ++ rest)
  pub place : length front ≡ i
  pub front_utf8 : IsUtf8 front
  pub rest_utf8 : IsUtf8 rest
  pub old_utf8 : IsUtf8 old
  pub new_utf8 : IsUtf8 new

-- and back again
pub Swaps-back : (text after : List ℕ) (i : ℕ) (old new : List ℕ) → Swaps text after i old new → Swaps after text i new old
Swaps-back text after i old new s = record {
  front = s.front;
  rest = s.rest;
  text_is = s.after_is;
  after_is = s.text_is;
  place = s.place;
  front_utf8 = s.front_utf8;
  rest_utf8 = s.rest_utf8;
  old_utf8 = s.new_utf8;
  new_utf8 = s.old_utf8;
}

-- old stands in the text, and with new in its place it is the text after
pub Swaps-stands : (text after : List ℕ) (i : ℕ) (old new : List ℕ) → Swaps text after i old new → StandsAt text i old
Swaps-stands text after i old new s = StandsAt-middle text s.front old s.rest i s.text_is s.place s.old_utf8 s.rest_utf8

replaced : (text after : List ℕ) (i : ℕ) (old new : List ℕ) → Swaps text after i old new → replace_range text i (i + length old) new ≡ after
replaced text after i old new s =
    ap₂ (λ x y. (x ++ new) ++ y) (take-middle text s.front old s.rest i s.text_is s.place) (drop-middle text s.front old s.rest i s.text_is s.place)
    ∙ append_assoc s.front new s.rest ∙ sym s.after_is

-- an event that was applied swaps
pub some_is : {A : Type 0} (o : Option A) (a : A) → o ≡ Some a → IsSome o
some_is None a h = cc
some_is (Some b) a h = refl

split_at : (text : List ℕ) (i : ℕ) (s : List ℕ) → slice_range text i (i + length s) ≡ s → text ≡ take i text ++ (s ++ drop (i + length s) text)
split_at text i s e =
    sym (take-append-drop i text) ∙ ap (λ x. take i text ++ x) (drop_split text i (i + length s) (omega arith) ∙ ap (λ x. x ++ drop (i + length s) text) e)

-- a part that stands in a text gave way to another
Swaps-at : (text after : List ℕ) (i : ℕ) (s t : List ℕ) → IsUtf8 text → StandsAt text i s → IsUtf8 t → replace_range text i (i + length s) t ≡ after → Swaps text after i s t
Swaps-at text after i s t u d v same = record {
  front = take i text;
  rest = drop (i + length s) text;
  text_is = split_at text i s d.bytes;
  after_is = sym same ∙ append_assoc (take i text) t (drop (i + length s) text);
  place = length-take-le i text d.start.0;
  front_utf8 = IsUtf8-take text i u d.start;
  rest_utf8 = IsUtf8-drop text (i + length s) u d.end;
  old_utf8 = d.utf8;
  new_utf8 = v;
}

pub Swaps-InsertStr : (text after : List ℕ) (i : ℕ) (s : List ℕ) → IsUtf8 text → apply (InsertStr i s) text ≡ Some after → Swaps text after i [] s
Swaps-InsertStr text after i s u h =
    let d = Inserts-from_IsSome text i s (some_is (apply (InsertStr i s) text) after h) in
    let stands : StandsAt text i [] =
    StandsAt-middle text (take i text) [] (drop i text) i (sym (take-append-drop i text)) (length-take-le i text d.fits.place.0)
    IsUtf8-nil (IsUtf8-drop text i u d.fits.place) in
    Swaps-at text after i [] s u stands d.fits.utf8
    (ap (λ k. replace_range text i k s) {x = i + 0} {y = i} (omega arith) ∙ same_Some (insert_slice text i s) after (sym d.makes ∙ h))

pub Swaps-Delete : (text after : List ℕ) (i : ℕ) (s : List ℕ) (side : Direction) → IsUtf8 text → apply (Delete i s side) text ≡ Some after → Swaps text after i s []
Swaps-Delete text after i s side u h =
    let d = Deletes-from_IsSome text i s side (some_is (apply (Delete i s side) text) after h) in
    Swaps-at text after i s [] u d.stands IsUtf8-nil (sym (removed-is_replaced text i (i + length s)) ∙ same_Some _ _ (sym d.makes ∙ h))

pub Swaps-Replace : (text after : List ℕ) (i : ℕ) (s t : List ℕ) → IsUtf8 text → apply (Replace i s t) text ≡ Some after → Swaps text after i s t
Swaps-Replace text after i s t u h =
    let d = Replaces-from_IsSome text i s t (some_is (apply (Replace i s t) text) after h) in
    Swaps-at text after i s t u d.stands d.utf8 (same_Some _ _ (sym d.makes ∙ h))

pub Swaps-InsertChar : (text after : List ℕ) (i c : ℕ) → IsUtf8 text → apply (InsertChar i c) text ≡ Some after → Swaps text after i [] (encode_utf8 c)
unfolding apply
Swaps-InsertChar text after i c u h = Swaps-InsertStr text after i (encode_utf8 c) u h

-- what swaps can be done
pub apply-InsertStr-Swaps : (text after : List ℕ) (i : ℕ) (s : List ℕ) → Swaps text after i [] s → apply (InsertStr i s) text ≡ Some after
unfolding apply
apply-InsertStr-Swaps text after i s p =
    rw (fits_at-true text i s p.new_utf8 (Swaps-stands text after i [] s p).start)
    (ap Some (ap (λ k. replace_range text i k s) {x = i} {y = i + 0} (omega arith) ∙ replaced text after i [] s p))

pub apply-Replace-Swaps : (text after : List ℕ) (i : ℕ) (s t : List ℕ) → Swaps text after i s t → apply (Replace i s t) text ≡ Some after
unfolding apply
apply-Replace-Swaps text after i s t p =
    let d = Swaps-stands text after i s t p in
    rw (stands_at-true text i s d.utf8 d.start d.end d.bytes, is_utf8-from_IsUtf8 t p.new_utf8) (ap Some (replaced text after i s t p))

-- a text stays a text
pub Swaps-IsUtf8 : (text after : List ℕ) (i : ℕ) (old new : List ℕ) → Swaps text after i old new → IsUtf8 after
Swaps-IsUtf8 text after i old new s =
    subst IsUtf8 (sym s.after_is) (IsUtf8-append s.front (new ++ s.rest) s.front_utf8 (IsUtf8-append new s.rest s.new_utf8 s.rest_utf8))

pub apply-IsUtf8 : (event : Event) (text after : List ℕ) → IsUtf8 text → apply event text ≡ Some after → IsUtf8 after
unfolding apply
apply-IsUtf8 (InsertChar i c) text after u h = Swaps-IsUtf8 _ _ _ _ _ (Swaps-InsertChar text after i c u h)
apply-IsUtf8 (InsertStr i s) text after u h = Swaps-IsUtf8 _ _ _ _ _ (Swaps-InsertStr text after i s u h)
apply-IsUtf8 (Delete i s side) text after u h = Swaps-IsUtf8 _ _ _ _ _ (Swaps-Delete text after i s side u h)
apply-IsUtf8 (Replace i s t) text after u h = Swaps-IsUtf8 _ _ _ _ _ (Swaps-Replace text after i s t u h)
apply-IsUtf8 Start text after u h = let e : text ≡ after = cc in subst IsUtf8 e u
apply-IsUtf8 Stop text after u h = let e : text ≡ after = cc in subst IsUtf8 e u
apply-IsUtf8 (Cursors b a) text after u h = let e : text ≡ after = cc in subst IsUtf8 e u

-- nothing gave way to nothing
pub Swaps-nothing : (text after : List ℕ) (i : ℕ) (old new : List ℕ) → length old ≡ 0 → length new ≡ 0 → Swaps text after i old new → after ≡ text
Swaps-nothing text after i old new e f s =
    s.after_is ∙ ap (λ x. s.front ++ (x ++ s.rest)) (nil_from_length new f ∙ sym (nil_from_length old e)) ∙ sym s.text_is

-- ---- two that meet
cut_alike : (a b c d : List ℕ) → a ++ b ≡ c ++ d → length a ≡ length c → (a ≡ c) × (b ≡ d)
cut_alike a b c d e n = (
  sym (take_at a b (length c) n) ∙ ap (take (length c)) e ∙ take_at c d (length c) refl,
  sym (drop_at a b (length c) n) ∙ ap (drop (length c)) e ∙ drop_at c d (length c) refl,
)

-- a second swap right after what the first put in
pub Swaps-after : (x y z : List ℕ) (j i : ℕ) (o w s t : List ℕ) → Swaps x y j o w → Swaps y z i s t → j + length w ≡ i → Swaps x z j (o ++ s) (w ++ t)
Swaps-after x y z j i o w s t p q h =
    let n : length (p.front ++ w) ≡ length q.front = length-append p.front w ∙ ap (λ k. k + length w) p.place ∙ h ∙ sym q.place in
    let both = cut_alike (p.front ++ w) p.rest q.front (s ++ q.rest) (append_assoc p.front w p.rest ∙ sym p.after_is ∙ q.text_is) n in
    record {
      front = p.front;
      rest = q.rest;
      text_is = p.text_is ∙ ap (λ r. p.front ++ (o ++ r)) both.1 ∙ ap (λ r. p.front ++ r) (sym (append_assoc o s q.rest));
      after_is = q.after_is ∙ ap (λ f. f ++ (t ++ q.rest)) (sym both.0) ∙ append_assoc p.front w (t ++ q.rest) ∙ ap (λ r. p.front ++ r) (sym (append_assoc w t q.rest));
      place = p.place;
      front_utf8 = p.front_utf8;
      rest_utf8 = q.rest_utf8;
      old_utf8 = IsUtf8-append o s p.old_utf8 q.old_utf8;
      new_utf8 = IsUtf8-append w t p.new_utf8 q.new_utf8;
    }

-- a deletion right before what the first put in
pub Swaps-before : (x y z : List ℕ) (j i : ℕ) (o w s : List ℕ) → Swaps x y j o w → Swaps y z i s [] → i + length s ≡ j → Swaps x z i (s ++ o) w
Swaps-before x y z j i o w s p q h =
    let n : length (q.front ++ s) ≡ length p.front = length-append q.front s ∙ ap (λ k. k + length s) q.place ∙ h ∙ sym p.place in
    let both = cut_alike (q.front ++ s) q.rest p.front (w ++ p.rest) (append_assoc q.front s q.rest ∙ sym q.text_is ∙ p.after_is) n in
    record {
      front = q.front;
      rest = p.rest;
      text_is = p.text_is ∙ ap (λ f. f ++ (o ++ p.rest)) (sym both.0) ∙ append_assoc q.front s (o ++ p.rest) ∙ ap (λ r. q.front ++ r) (sym (append_assoc s o p.rest));
      after_is = q.after_is ∙ ap (λ r. q.front ++ r) both.1;
      place = q.place;
      front_utf8 = q.front_utf8;
      rest_utf8 = p.rest_utf8;
      old_utf8 = IsUtf8-append s o q.old_utf8 p.old_utf8;
      new_utf8 = p.new_utf8;
    }
