-- The entries of a record lead from text to text and back.
use Rattle.rl_record.proofs.Common.{Bool, Changed, Delete, Deletion, Direction, Entry, Event, Freshness, InsertChar, InsertStr, Insertion, IsUtf8, Kind, List, None, Option, Record, Replace, Replacement, Some, Swap, [], ap, cond, encode_utf8, entries_after, eqb-true, event_of, false, followed, inl, inr, inverse, is_alphanumeric, is_word_cluster, joined, length, not, option_and_then, past, refl, subst, sym, true, untold, unwind, ℕ, ◌&&◌, ◌++◌, ◌+◌, ◌==◌, ◌∙◌, ◌∷◌, ◌≡◌, ◌⊎◌}
use Rattle.rl_base.proofs.Texts.SwapLemmas.{Swaps, Swaps-Delete, Swaps-InsertChar, Swaps-InsertStr, Swaps-Replace, Swaps-after, Swaps-back, Swaps-before, Swaps-nothing, apply-IsUtf8, apply-Replace-Swaps}
use Rattle.rl_base.proofs.Texts.TextLemmas.{and_right}
use Rattle.rl_base.specs.Event.{apply}
use Rattle.rl_line.proofs.Changes.InverseLemmas.{if_some, inverse-undoes, through, undoes-inverse, unwind-append}
use Rattle.rl_record.proofs.Records.LastLemmas.{after-cases}
use Rattle.rl_record.proofs.Records.ToldLemmas.{last_told-unwind, recorded-cases}
use Rattle.rl_record.specs.Record.{entries_of, record_step}

-- the entries of an event undo it
undoes : (k : Kind) (i : ℕ) (s t text now : List ℕ) → Swaps text now i s t → unwind (Changed k (untold i s t) ∷ []) now ≡ Some text
unfolding apply
undoes k i s t text now swaps = apply-Replace-Swaps now text i t s (Swaps-back text now i s t swaps)

undoes-unless : (k : Kind) (i : ℕ) (s t text now : List ℕ) (b : Bool) → (b ≡ true → (length s ≡ 0) × (length t ≡ 0)) → Swaps text now i s t
    → unwind (cond b [] (Changed k (untold i s t) ∷ [])) now ≡ Some text
undoes-unless k i s t text now true none swaps = let e = none refl in ap Some (Swaps-nothing text now i s t e.0 e.1 swaps)
undoes-unless k i s t text now false none swaps = undoes k i s t text now swaps

pub entries_of-undo : (event : Event) (text now : List ℕ) → IsUtf8 text → apply event text ≡ Some now → unwind (entries_of event) now ≡ Some text
unfolding entries_of apply
entries_of-undo (InsertChar i c) text now u h = undoes Insertion i [] _ text now (Swaps-InsertChar text now i c u h)
entries_of-undo (InsertStr i s) text now u h = undoes-unless Insertion i [] s text now (length s == 0) (λ e. (refl, eqb-true (length s) 0 e)) (Swaps-InsertStr text now i s u h)
entries_of-undo (Delete i s side) text now u h = undoes-unless Deletion i s [] text now (length s == 0) (λ e. (eqb-true (length s) 0 e, refl)) (Swaps-Delete text now i s side u h)
entries_of-undo (Replace i s t) text now u h = undoes Replacement i s t text now (Swaps-Replace text now i s t u h)
entries_of-undo _ text now u h = sym h

unless_nothing : (kind : Kind) (swap : Swap) (b : Bool)
    → (cond b [] (Changed kind swap ∷ []) ≡ []) ⊎ ((k : Kind) × (c : Swap) × (cond b [] (Changed kind swap ∷ []) ≡ Changed k c ∷ []))
unless_nothing kind swap true = inl refl
unless_nothing kind swap false = inr (kind, swap, refl)

-- an event adds nothing, or one change
pub none_or_one : (event : Event) → (entries_of event ≡ []) ⊎ ((k : Kind) × (c : Swap) × (entries_of event ≡ Changed k c ∷ []))
unfolding entries_of
none_or_one (InsertChar i c) = inr (_, _, refl)
none_or_one (InsertStr i s) = unless_nothing _ _ (length s == 0)
none_or_one (Delete i s side) = unless_nothing _ _ (length s == 0)
none_or_one (Replace i s t) = inr (_, _, refl)
none_or_one _ = inl refl

if_else : {A : Type 0} (b : Bool) (a c : A) (o : Option A) → cond b (Some a) o ≡ Some c → ((b ≡ true) × (a ≡ c)) ⊎ (o ≡ Some c)
if_else true a c o h = inl (refl, cc)
if_else false a c o h = inr h

unless : {A : Type 0} (b : Bool) (c : A) (o : Option A) → cond b None o ≡ Some c → o ≡ Some c
unless true c o h = cc
unless false c o h = h

-- where an event joins a change, and the change that is one for both
pub char-joined : (i c : ℕ) (l : Swap) (joint : Entry) → joined (InsertChar i c) (Changed Insertion l) ≡ Some joint
    → (past l ≡ i) × (Changed Insertion (followed l [] (encode_utf8 c)) ≡ joint)
char-joined i c l joint h =
    let b = if_some (is_alphanumeric c && (past l == i)) _ joint h in (eqb-true (past l) i (and_right (is_alphanumeric c) (past l == i) b.0), b.1)

pub deletion-joined : (i : ℕ) (s : List ℕ) (side : Direction) (l : Swap) (joint : Entry) → joined (Delete i s side) (Changed Deletion l) ≡ Some joint
    → ((past l ≡ i) × (Changed Deletion (followed l s []) ≡ joint)) ⊎ ((i + length s ≡ l.place) × (Changed Deletion (untold i (s ++ l.old) l.new) ≡ joint))
deletion-joined i s side l joint h =
    elim (if_else (past l == i) _ joint _ (unless (not (is_word_cluster s)) joint _ h)) [
      | inl b ↦ inl (eqb-true (past l) i b.0, b.1)
      | inr k ↦ let b = if_some (i + length s == l.place) _ joint k in inr (eqb-true (i + length s) l.place b.0, b.1)
    ]

pub replacement-joined : (i : ℕ) (s t : List ℕ) (l : Swap) (joint : Entry) → joined (Replace i s t) (Changed Replacement l) ≡ Some joint
    → (past l ≡ i) × (Changed Replacement (followed l s t) ≡ joint)
replacement-joined i s t l joint h = let b = if_some (past l == i) _ joint h in (eqb-true (past l) i b.0, b.1)

-- what an event joins is a change, and so is the one for both, which has no cursors yet
pub record Joins (e joint : Entry) : Type 0 where
  pub kind : Kind
  pub last : Swap
  pub now : Swap
  pub was : e ≡ Changed kind last
  pub is : Changed kind now ≡ joint
  pub none : now.cursors ≡ None

pub joins : (event : Event) (e joint : Entry) → joined event e ≡ Some joint → Joins e joint
joins (InsertChar i c) (Changed Insertion l) joint h = record { kind = Insertion; last = l; now = _; was = refl; is = (char-joined i c l joint h).1; none = refl }
joins (Delete i s side) (Changed Deletion l) joint h =
    elim (deletion-joined i s side l joint h) [
      | inl b ↦ record { kind = Deletion; last = l; now = _; was = refl; is = b.1; none = refl }
      | inr b ↦ record { kind = Deletion; last = l; now = _; was = refl; is = b.1; none = refl }
    ]
joins (Replace i s t) (Changed Replacement l) joint h = record { kind = Replacement; last = l; now = _; was = refl; is = (replacement-joined i s t l joint h).1; none = refl }
joins event e joint h = cc

-- and it does what the change and the event do
redone-after : (l : Swap) (i : ℕ) (s t x y z : List ℕ) → past l ≡ i → IsUtf8 x → apply (Replace l.place l.old l.new) x ≡ Some y → Swaps y z i s t
    → apply (Replace l.place (l.old ++ s) (l.new ++ t)) x ≡ Some z
redone-after l i s t x y z at u p q =
    apply-Replace-Swaps x z l.place (l.old ++ s) (l.new ++ t) (Swaps-after x y z l.place i l.old l.new s t (Swaps-Replace x y l.place l.old l.new u p) q at)

pub redone-joined : (event : Event) (e joint : Entry) (x y z : List ℕ) → joined event e ≡ Some joint → IsUtf8 x → apply (event_of e) x ≡ Some y → apply event y ≡ Some z
    → apply (event_of joint) x ≡ Some z
redone-joined (InsertChar i c) (Changed Insertion l) joint x y z h u p q =
    let b = char-joined i c l joint h in
    subst (λ k. apply (event_of k) x ≡ Some z) b.1 (redone-after l i [] (encode_utf8 c) x y z b.0 u p (Swaps-InsertChar y z i c (apply-IsUtf8 _ x y u p) q))
redone-joined (Delete i s side) (Changed Deletion l) joint x y z h u p q =
    let second = Swaps-Delete y z i s side (apply-IsUtf8 _ x y u p) q in
    elim (deletion-joined i s side l joint h) [
      | inl b ↦ subst (λ k. apply (event_of k) x ≡ Some z) b.1 (redone-after l i s [] x y z b.0 u p second)
      | inr b ↦
          let one = Swaps-before x y z l.place i l.old l.new s (Swaps-Replace x y l.place l.old l.new u p) second b.0 in
          subst (λ k. apply (event_of k) x ≡ Some z) b.1 (apply-Replace-Swaps x z i (s ++ l.old) l.new one)
    ]
redone-joined (Replace i s t) (Changed Replacement l) joint x y z h u p q =
    let b = replacement-joined i s t l joint h in
    subst (λ k. apply (event_of k) x ≡ Some z) b.1 (redone-after l i s t x y z b.0 u p (Swaps-Replace y z i s t (apply-IsUtf8 _ x y u p) q))
redone-joined event e joint x y z h u p q = cc

-- the text from which entries came stays, whatever event came
pub entries_after-unwind : (was : Freshness) (event : Event) (es : List Entry) (text now start : List ℕ) → IsUtf8 text → apply event text ≡ Some now → unwind es text ≡ Some start
    → unwind (entries_after was event es) now ≡ Some start
entries_after-unwind was event es text now start u h k =
    after-cases was event (λ xs ys _. unwind xs text ≡ Some start → unwind ys now ≡ Some start)
    (λ xs j. unwind-append xs (entries_of event) now ∙ ap (option_and_then (unwind xs)) (entries_of-undo event text now u h) ∙ j) joins es k
  where
    joins : (front : List Entry) (e joint : Entry) → joined event e ≡ Some joint → unwind (front ++ e ∷ []) text ≡ Some start → unwind (front ++ joint ∷ []) now ≡ Some start
    joins front e joint h1 j =
        let p = through (unwind front) (unwind (e ∷ []) text) start (sym (unwind-append front (e ∷ []) text) ∙ j) in
        let v = apply-IsUtf8 (event_of (inverse e)) text p.0 u p.1 in
        let one = redone-joined event e joint p.0 text now h1 v (undoes-inverse e p.0 text u p.1) h in
        unwind-append front (joint ∷ []) now ∙ ap (option_and_then (unwind front)) (inverse-undoes joint p.0 now v one) ∙ p.2

pub record_step-unwind : (r : Record) (event : Event) (text now start : List ℕ) → IsUtf8 text → apply event text ≡ Some now → unwind r.recorded text ≡ Some start
    → unwind (record_step r event).recorded now ≡ Some start
unfolding record_step
record_step-unwind r event text now start u h k =
    recorded-cases (λ es. unwind es now ≡ Some start) event r (entries_after-unwind r.fresh event r.recorded text now start u h k) (λ es p e. last_told-unwind p es now ∙ e)
