-- As many redos as an undo took units give back the record and the text.
use Rattle.rl_record.proofs.Common.{Bool, BothMatched, Entry, IsMatched, IsUtf8, Line, List, Open, Option, Record, Redos, Some, UndoUnit, Undone, Whole, [], ap, append-nil, append_assoc, arith, arrived, common_steps, drop, entries, kept_of, last_of, last_units, length, length-reverse, length-take-le, level, line_ahead, marks, max, next_of, opens, option_and_then, redo_of, redone, refl, replay_entries, reverse, reverse-reverse, subst, suc, sym, take, take-append-drop, together, undone, units, zero, ℕ, ◌++◌, ◌+◌, ◌<◌, ◌∙◌, ◌∷◌, ◌≡◌, ◌≤◌}
use Rattle.rl_base.proofs.Texts.SwapLemmas.{some_is}
use Rattle.rl_line.proofs.Changes.BackLemmas.{line_ahead-replay, line_back-unwind}
use Rattle.rl_line.proofs.Changes.InverseLemmas.{replay-append, replay-unwind}
use Rattle.rl_record.proofs.Records.MatchLemmas.{AllGood-take}
use Rattle.rl_record.proofs.Records.UnitLemmas.{AllGood, AllGood-left, AllGood-reverse, AllGood-right, IsMatched-append, Settles, kept-last, on, opens-append, opens-reverse, together-reverse, together-units, units-append, units-good}

IsMatched-on : (vs : List UndoUnit) → AllGood vs → opens vs ≡ 0 → IsMatched (on vs)
IsMatched-on [] g o = refl
IsMatched-on (Open ∷ vs) g o = absurd (omega arith)
IsMatched-on (Whole es ∷ vs) g o = IsMatched-append es (on vs) (some_is (marks es []) [] (g.0.flags [])) (IsMatched-on vs g.1 o)

-- a closed unit at the front is what a redo puts back
redo_of-front : (es rest : List Entry) → Settles es → IsMatched rest → redo_of (es ++ rest) ≡ es
redo_of-front es rest s h = grind (arith, common_steps, units-append)

-- the record after so many redos
abbrev redone_times : ℕ → Record → Record
redone_times zero r = r
redone_times (suc n) r = redone_times n (redone r)

redo_one : (saved : Option ℕ) (es kept rest : List Entry) → Settles es → IsMatched rest → redone (arrived kept (es ++ rest) saved) ≡ arrived (kept ++ es) rest saved
redo_one saved es kept rest s h = grind (arith, common_steps, redo_of-front)

-- redos put back closed units one by one, the oldest first
redo_all : (saved : Option ℕ) (vs : List UndoUnit) (kept rest : List Entry) → AllGood vs → opens vs ≡ 0 → IsMatched rest
    → redone_times (length vs) (arrived kept (on vs ++ rest) saved) ≡ arrived (kept ++ on vs) rest saved
redo_all saved [] kept rest g o h = ap (λ k. arrived k rest saved) (sym (append-nil kept))
redo_all saved (Open ∷ vs) kept rest g o h = absurd (omega arith)
redo_all saved (Whole es ∷ vs) kept rest g o h =
    ap (λ p. redone_times (length vs) (redone (arrived kept p saved))) (append_assoc es (on vs) rest)
    ∙ ap (redone_times (length vs)) (redo_one saved es kept (on vs ++ rest) g.0 (IsMatched-append (on vs) rest (IsMatched-on vs g.1 o) h))
    ∙ redo_all saved vs (kept ++ es) rest g.1 o h
    ∙ ap (λ k. arrived k rest saved) (append_assoc kept es (on vs))

-- the units that an undo takes off, the oldest first
record TakenOff (n : ℕ) (r : Record) : Type 0 where
  taken : List UndoUnit
  good : AllGood taken
  whole : opens taken ≡ 0
  long : length taken ≡ length (last_units n r.recorded)
  is : last_of n r.recorded ≡ on taken

taken-off : (n : ℕ) (r : Record) → BothMatched r → opens (last_units n r.recorded) ≡ 0 → TakenOff n r
taken-off n r b o =
    let us = last_units n r.recorded in
    record {
      taken = reverse us;
      good = AllGood-reverse us (AllGood-take (max n 1) (units r.recorded) (units-good r.recorded b.recorded));
      whole = opens-reverse us ∙ o;
      long = length-reverse us;
      is = ap together (sym (reverse-reverse us)) ∙ together-reverse (reverse us);
    }

pub redo-undone : (n : ℕ) (r : Record) → BothMatched r → opens (last_units n r.recorded) ≡ 0
    → redone_times (length (last_units n r.recorded)) (undone n r) ≡ arrived r.recorded r.pending r.saved
redo-undone n r b o =
    let t = taken-off n r b o in
    ap (λ k. redone_times k (undone n r)) (sym t.long)
    ∙ ap (λ l. redone_times (length t.taken) (arrived (kept_of n r.recorded) (l ++ r.pending) r.saved)) t.is
    ∙ redo_all r.saved t.taken (kept_of n r.recorded) r.pending t.good t.whole b.pending
    ∙ ap (λ l. arrived (kept_of n r.recorded ++ l) r.pending r.saved) (sym t.is)
    ∙ ap (λ l. arrived l r.pending r.saved) (kept-last n r.recorded)

-- ---- the text
Redos-record : (n : ℕ) (old new : Record) (line line' : Line) → Redos n old new line line' → new ≡ redone_times n old
Redos-record zero old new line line' h = h.0
Redos-record (suc n) old new line line' h = let (mid, between, answer, first, others) = h in Redos-record n mid new between line' others ∙ ap (redone_times n) first.record_is

-- redos replay the closed units
Redos-text : (saved : Option ℕ) (vs : List UndoUnit) (kept rest : List Entry) (new : Record) (line line' : Line) → AllGood vs → opens vs ≡ 0 → IsMatched rest
    → Redos (length vs) (arrived kept (on vs ++ rest) saved) new line line' → replay_entries (on vs) line.text ≡ Some line'.text
Redos-text saved [] kept rest new line line' g o h d = ap (λ (l : Line). Some l.text) (sym d.1)
Redos-text saved (Open ∷ vs) kept rest new line line' g o h d = absurd (omega arith)
Redos-text saved (Whole es ∷ vs) kept rest new line line' g o h d =
    let (mid, between, answer, first, others) = subst (λ p. Redos (suc (length vs)) (arrived kept p saved) new line line') (append_assoc es (on vs) rest) d in
    let m = IsMatched-append (on vs) rest (IsMatched-on vs g.1 o) h in
    let one = line_ahead-replay es line between (ap (λ u. line_ahead u line) (sym (redo_of-front es (on vs ++ rest) g.0 m)) ∙ first.line_is) in
    replay-append es (on vs) line.text ∙ ap (option_and_then (replay_entries (on vs))) one
    ∙ Redos-text saved vs (kept ++ es) rest new between line' g.1 o h
    (subst (λ x. Redos (length vs) x new between line') (first.record_is ∙ redo_one saved es kept (on vs ++ rest) g.0 m) others)

on-append : (vs ws : List UndoUnit) → on (vs ++ ws) ≡ on vs ++ on ws
on-append [] ws = refl
on-append (v ∷ vs) ws = ap (λ l. entries v ++ l) (on-append vs ws) ∙ sym (append_assoc (entries v) (on vs) (on ws))

-- whether the last recorded change may be joined is all one to a redo
Redos-arrived : (n : ℕ) (r new : Record) (line line' : Line) → 0 < n → Redos n r new line line' → Redos n (arrived r.recorded r.pending r.saved) new line line'
Redos-arrived zero r new line line' some d = absurd (omega (arith, some))
Redos-arrived (suc n) r new line line' some d =
    let (mid, between, answer, first, others) = d in
    (mid, between, answer, record { line_is = first.line_is; record_is = first.record_is; answer_is = first.answer_is }, others)

-- n redos lead where the next n units lead
pub Redos-lead : (n : ℕ) (r new : Record) (line line' : Line) → IsMatched r.pending → level r.pending ≡ 0 → 0 < n → n ≤ length (units r.pending) → Redos n r new line line'
    → replay_entries (next_of n r.pending) line.text ≡ Some line'.text
Redos-lead n r new line line' m closed some few d =
    let vs = reverse (units r.pending) in
    let first = take n vs in
    let rest = drop n vs in
    let good = AllGood-reverse (units r.pending) (units-good r.pending m) in
    let none : opens first + opens rest ≡ 0 = sym (opens-append first rest) ∙ ap opens (take-append-drop n vs) ∙ opens-reverse (units r.pending) ∙ closed in
    let parts = subst AllGood (sym (take-append-drop n vs)) good in
    let all : r.pending ≡ on first ++ on rest =
    sym (together-units r.pending) ∙ ap together (sym (reverse-reverse (units r.pending))) ∙ together-reverse vs ∙ ap on (sym (take-append-drop n vs)) ∙ on-append first rest in
    let long : n ≡ length first = sym (length-take-le n vs (omega (arith, few, length-reverse (units r.pending)))) in
    let one : max n 1 ≡ n = omega (arith, some) in
    let redos = subst (λ k. Redos k (arrived r.recorded (on first ++ on rest) r.saved) new line line') long
    (subst (λ l. Redos n (arrived r.recorded l r.saved) new line line') all (Redos-arrived n r new line line' some d)) in
    ap (λ k. replay_entries (together (reverse (take k vs))) line.text) one ∙ ap (λ l. replay_entries l line.text) (together-reverse first)
    ∙ Redos-text r.saved first r.recorded (on rest) new line line' (AllGood-left first rest parts) (omega (arith, none))
    (IsMatched-on rest (AllGood-right first rest parts) (omega (arith, none))) redos

pub redos-give-back : (n : ℕ) (r mid now : Record) (line back ahead : Line) (answer : Bool) → IsUtf8 line.text → BothMatched r
    → opens (last_units n r.recorded) ≡ 0 → Undone n r mid line back answer
    → Redos (length (last_units n r.recorded)) mid now back ahead
    → (now.recorded ≡ r.recorded) × (now.pending ≡ r.pending) × (ahead.text ≡ line.text)
redos-give-back n r mid now line back ahead answer u b o un d =
    let t = taken-off n r b o in
    let whole = Redos-record (length (last_units n r.recorded)) mid now back ahead d ∙ ap (redone_times (length (last_units n r.recorded))) un.record_is ∙ redo-undone n r b o in
    let mid_is : mid ≡ arrived (kept_of n r.recorded) (on t.taken ++ r.pending) r.saved = un.record_is ∙ ap (λ l. arrived (kept_of n r.recorded) (l ++ r.pending) r.saved) t.is in
    let redos = subst (λ x. Redos (length t.taken) x now back ahead) mid_is (subst (λ k. Redos k mid now back ahead) (sym t.long) d) in
    let there = Redos-text r.saved t.taken (kept_of n r.recorded) r.pending now back ahead t.good t.whole b.pending redos in
    let here = replay-unwind (last_of n r.recorded) line.text back.text u (line_back-unwind (last_of n r.recorded) line back un.line_is) in
    let both : Some ahead.text ≡ Some line.text = sym there ∙ ap (λ es. replay_entries es back.text) (sym t.is) ∙ here in
    (ap (λ (k : Record). k.recorded) whole, ap (λ (k : Record). k.pending) whole, cc)
