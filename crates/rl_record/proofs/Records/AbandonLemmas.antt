-- Taking back the group that was opened last: what it makes of a record, and what stands after it.
use Rattle.rl_record.proofs.Common.{Abandoned, Begin, Bool, Entry, Event, IsMatched, IsSome, IsUtf8, Line, List, Open, Record, Some, StaysSaved, UndoUnit, Undone, Walks, Whole, [], abandoned, ap, append_assoc, arith, change_count, cond, cond_both, drop, drop_at, false, has_change, in_group, inl, inr, is_open, kept_of, last_of, length, level, line_back, max, ne_eqb, not, open_group, open_size, opens, point_kept, redo_dropped, redo_of, redone, refl, same_Some, size_to_open, subst, suc, sym, take, take-append-drop, together, true, undone, units, zero, ℕ, ◌++◌, ◌<◌, ◌∙◌, ◌∷◌, ◌≡◌, ◌≤◌, ◌⊎◌}
use Rattle.rl_record.proofs.Records.EndLemmas.{level-group, within}
use Rattle.rl_record.proofs.Records.GroupLemmas.{Inside, InsideOf}
use Rattle.rl_record.proofs.Records.MatchLemmas.{redo-front}
use Rattle.rl_record.proofs.Records.MoveLemmas.{undo-fits}
use Rattle.rl_record.proofs.Records.OriginLemmas.{Kept, Kept-Undone}
use Rattle.rl_record.proofs.Records.SavePointLemmas.{saved-dropped, saved-undone, told-at}
use Rattle.rl_record.proofs.Records.UnitLemmas.{AllGood, AllGood-right, IsMatched-append, IsMatched-front, IsMatched-together, cut_more-append, good_cuts, opens-append, together-append, together-units, units-append, units-good}
use Rattle.rl_record.proofs.Records.WalkLemmas.{Walks-Undone}

-- ---- where the group begins
counted : (us vs : List UndoUnit) → opens us ≡ 0 → size_to_open (us ++ Open ∷ vs) ≡ suc (length us)
counted [] vs o = refl
counted (Open ∷ us) vs o = absurd (omega (arith, o))
counted (Whole es ∷ us) vs o = ap suc (counted us vs o)

taken : (us vs : List UndoUnit) → take (suc (length us)) (us ++ Open ∷ vs) ≡ us ++ Open ∷ []
taken [] vs = refl
taken (u ∷ us) vs = ap (λ x. u ∷ x) (taken us vs)

left : (us vs : List UndoUnit) → drop (suc (length us)) (us ++ Open ∷ vs) ≡ vs
left [] vs = refl
left (u ∷ us) vs = left us vs

-- the group is what stands from its Begin on, if all that was begun inside is closed
pub record GroupOpen (front inner es : List Entry) : Type 0 where
  pub opened : is_open es ≡ true
  pub unit : last_of (open_size es) es ≡ Begin ∷ inner
  pub kept : kept_of (open_size es) es ≡ front

open_units : (front inner : List Entry) → IsMatched inner → units (front ++ Begin ∷ inner) ≡ units inner ++ Open ∷ units front
open_units front inner m =
    ap units (sym (append_assoc front (Begin ∷ []) inner)) ∙ units-append (front ++ Begin ∷ []) inner m ∙ ap (λ vs. units inner ++ vs) (cut_more-append [] front (Begin ∷ []))

pub open_after : (front inner : List Entry) → IsMatched inner → level inner ≡ 0 → GroupOpen front inner (front ++ Begin ∷ inner)
open_after front inner m l =
    let es = front ++ Begin ∷ inner in
    let us = units inner in
    let cut = open_units front inner m in
    let size : max (open_size es) 1 ≡ suc (length us) = omega (arith, ap size_to_open cut ∙ counted us (units front) l) in
    record {
      opened = ap not (ne_eqb (level es) 0 (λ e. omega (arith, e, level-group front inner m)));
      unit = ap (λ n. together (take n (units es))) size ∙ ap (λ vs. together (take (suc (length us)) vs)) cut ∙ ap together (taken us (units front))
          ∙ together-append us (Open ∷ []) ∙ ap (λ x. Begin ∷ x) (together-units inner);
      kept = ap (λ n. together (drop n (units es))) size ∙ ap (λ vs. together (drop (suc (length us)) vs)) cut ∙ ap together (left us (units front)) ∙ together-units front;
    }

-- ---- a record in which nothing happened but events since the begin
pub never_begun : (r : Record) (events : List Event) → IsMatched r.recorded
    → (open_group (in_group events r).recorded ≡ drop (length r.recorded) (in_group events r).recorded)
    × ((abandoned (in_group events r)).recorded ≡ r.recorded) × ((abandoned (in_group events r)).pending ≡ [])
never_begun r events h =
    let w = within r events h in
    let now = in_group events r in
    let g : GroupOpen r.recorded w.inner now.recorded = subst (GroupOpen r.recorded w.inner) (sym w.is) (open_after r.recorded w.inner w.matched w.closed) in (
      ap (λ b. cond b (last_of (open_size now.recorded) now.recorded) []) g.opened ∙ g.unit
          ∙ sym (ap (drop (length r.recorded)) w.is ∙ drop_at r.recorded (Begin ∷ w.inner) (length r.recorded) refl),
      ap (λ b. (cond b (redo_dropped (undone (open_size now.recorded) now)) now).recorded) g.opened ∙ g.kept,
      ap (λ b. (cond b (redo_dropped (undone (open_size now.recorded) now)) now).pending) g.opened,
    )

-- ---- what an abandon keeps
-- it is an undo, whose units are dropped, or nothing
pub abandoned-as : (r now : Record) (old new : Line) (a : Bool) → Abandoned r now old new a
    → ((now ≡ r) × (new ≡ old)) ⊎ ((mid : Record) × (b : Bool) × Undone (open_size r.recorded) r mid old new b × (now ≡ redo_dropped mid))
abandoned-as r now old new a d = from (is_open r.recorded) d.line_is d.record_is
  where
    from : (x : Bool) → line_back (cond x (last_of (open_size r.recorded) r.recorded) []) old ≡ Some new → now ≡ cond x (redo_dropped (undone (open_size r.recorded) r)) r
        → ((now ≡ r) × (new ≡ old)) ⊎ ((mid : Record) × (b : Bool) × Undone (open_size r.recorded) r mid old new b × (now ≡ redo_dropped mid))
    from true l k = inr (undone (open_size r.recorded) r, has_change (last_of (open_size r.recorded) r.recorded), record { line_is = l; record_is = refl; answer_is = refl }, k)
    from false l k = inl (k, sym (same_Some _ _ l))

Walks-dropped : (r : Record) (text : List ℕ) → Walks r text → Walks (redo_dropped r) text
Walks-dropped r text w = record { start = w.start; is_text = w.is_text; back = w.back; end = text; ahead = refl; stale = told-at (change_count r.recorded) (point_kept r) }

pub Walks-Abandoned : (r now : Record) (old new : Line) (a : Bool) → Abandoned r now old new a → Walks r old.text → Walks now new.text
Walks-Abandoned r now old new a d w = elim (abandoned-as r now old new a d) [
  | inl same ↦ subst (λ (k : Record). Walks k new.text) (sym same.0) (subst (λ (l : Line). Walks r l.text) (sym same.1) w)
  | inr (mid, b, u, k) ↦ subst (λ (k : Record). Walks k new.text) (sym k) (Walks-dropped mid new.text (Walks-Undone _ r mid old new b u w))
]

pub Kept-Abandoned : (r now : Record) (old new : Line) (a : Bool) → IsUtf8 old.text → Abandoned r now old new a → Kept r now old new
Kept-Abandoned r now old new a utf8 d = elim (abandoned-as r now old new a d) [
  | inl same ↦ subst (λ (k : Record). Kept r k old new) (sym same.0) (subst (Kept r r old) (sym same.1) (record { origin_is = λ start e. e; utf8 = utf8 }))
  | inr (mid, b, u, k) ↦
      let kept = Kept-Undone _ r mid old new b utf8 u in
      subst (λ (k : Record). Kept r k old new) (sym k) (record { origin_is = kept.origin_is; utf8 = kept.utf8 })
]

pub saved-abandoned : (es : List Entry) (r : Record) → StaysSaved es r → StaysSaved es (abandoned r)
saved-abandoned es r s = from (is_open r.recorded)
  where
    from : (x : Bool) → StaysSaved es (cond x (redo_dropped (undone (open_size r.recorded) r)) r)
    from true = let back = undone (open_size r.recorded) r in saved-dropped es back.recorded back refl (saved-undone es r (open_size r.recorded) s)
    from false = s

-- ---- where the line can go back
pub abandon-fits : (es : List Entry) (line : Line) → IsSome (line_back es line) → IsSome (line_back (open_group es) line)
abandon-fits es line h = cond_both (is_open es) _ _ (λ k. IsSome (line_back k line)) (λ _. undo-fits (open_size es) es line h) (λ _. refl)

-- in a form that the search uses: an abandon that was done
pub abandoned-walks : (r now : Record) (old new : Line) (a : Bool) → Abandoned r now old new a → Walks r old.text → Abandoned r now old new a × Walks now new.text
abandoned-walks r now old new a d w = (d, Walks-Abandoned r now old new a d w)

-- ---- an undo, an abandon and a redo inside a group that stays open
left_open : (n : ℕ) (us vs : List UndoUnit) → AllGood us
    → ((j : ℕ) × (drop n (us ++ Open ∷ vs) ≡ drop j vs)) ⊎ ((ws : List UndoUnit) × AllGood ws × (drop n (us ++ Open ∷ vs) ≡ ws ++ Open ∷ vs))
left_open zero us vs g = inr (us, g, refl)
left_open (suc n) [] vs g = inl (n, refl)
left_open (suc n) (Open ∷ us) vs g = left_open n us vs g.1
left_open (suc n) (Whole es ∷ us) vs g = left_open n us vs g.1

opens-fewer : (j : ℕ) (us : List UndoUnit) → opens (drop j us) ≤ opens us
opens-fewer zero us = omega arith
opens-fewer (suc j) [] = omega arith
opens-fewer (suc j) (Open ∷ us) = omega (arith, opens-fewer j us)
opens-fewer (suc j) (Whole es ∷ us) = opens-fewer j us

level-fewer : (j : ℕ) (es : List Entry) → IsMatched es → level (together (drop j (units es))) ≤ level es
level-fewer j es m =
    let us = units es in
    let good = AllGood-right (take j us) (drop j us) (subst AllGood (sym (take-append-drop j us)) (units-good es m)) in
    omega (arith, opens-fewer j us, ap opens (good_cuts (drop j us) [] good), opens-append (drop j us) [])

kept_inside : (n : ℕ) (front inner : List Entry) → IsMatched front → IsMatched inner → level front < level (kept_of n (front ++ Begin ∷ inner)) → InsideOf front (kept_of n (front ++ Begin ∷ inner))
kept_inside n front inner mf m up =
    let es = front ++ Begin ∷ inner in
    let us = units inner in
    let kept : kept_of n es ≡ together (drop (max n 1) (us ++ Open ∷ units front)) = ap (λ vs. together (drop (max n 1) vs)) (open_units front inner m) in
    elim (left_open (max n 1) us (units front) (units-good inner m)) [
      | inl (j, is) ↦ absurd (omega (arith, up, ap level (kept ∙ ap together is), level-fewer j front mf))
      | inr (ws, good, is) ↦ record {
        inner = together ws;
        is = kept ∙ ap together is ∙ together-append ws (Open ∷ units front) ∙ ap (λ x. (x ++ Begin ∷ []) ++ together ws) (together-units front) ∙ append_assoc front (Begin ∷ []) (together ws);
        matched = IsMatched-together ws good;
      }
    ]

pub Inside-undone : (n : ℕ) (front : List Entry) (r : Record) → IsMatched front → Inside front r → level front < level (undone n r).recorded → Inside front (undone n r)
Inside-undone n front r m k up =
    let left : (undone n r).recorded ≡ kept_of n (front ++ Begin ∷ k.inner) = ap (kept_of n) k.is in
    subst (InsideOf front) (sym left) (kept_inside n front k.inner m k.matched (subst (λ es. level front < level es) left up))

pub Inside-Abandoned : (front : List Entry) (r now : Record) (old new : Line) (a : Bool) → IsMatched front → Inside front r → level front < level now.recorded → Abandoned r now old new a → Inside front now
Inside-Abandoned front r now old new a m k up d = elim (abandoned-as r now old new a d) [
  | inl same ↦ subst (Inside front) (sym same.0) k
  | inr (mid, b, u, is) ↦
      let left : now.recorded ≡ (undone (open_size r.recorded) r).recorded = ap (λ (m : Record). m.recorded) is ∙ ap (λ (m : Record). m.recorded) u.record_is in
      let i = Inside-undone (open_size r.recorded) front r m k (subst (λ es. level front < level es) left up) in
      subst (InsideOf front) (sym left) i
]

pub Inside-redone : (front : List Entry) (r : Record) → IsMatched r.pending → Inside front r → Inside front (redone r)
Inside-redone front r m k = record {
  inner = k.inner ++ redo_of r.pending;
  is = ap (λ l. l ++ redo_of r.pending) k.is ∙ append_assoc front (Begin ∷ k.inner) (redo_of r.pending);
  matched = IsMatched-append k.inner (redo_of r.pending) k.matched (IsMatched-front (redo_of r.pending) (drop (length (redo_of r.pending)) r.pending) (subst IsMatched (sym (redo-front r.pending)) m));
}
