-- An undo stays in the group that was opened last and is open, and leaves it open.
use Rattle.rl_session.proofs.Common.{◌≡◌, ◌==◌, ◌<◌, ◌-◌, ◌∙◌, ℕ, zero, suc, min, max, arith, ap, cond, refl, subst, sym, inl, inr, ◌⊎◌, Bool, true, false, not, List, [], ◌∷◌, take, drop, take-append-drop, append-nil, Some, None, eqb-true, Entry, IsMatched, Record, kept_of, level, opens, undone, Reply, State, Undo}
use Rattle.rl_record.specs.Units.{BothMatched, Open, UndoUnit, Whole, is_open, open_size, size_to_open, units, units_in_group}
use Rattle.rl_record.proofs.Records.ForgettingLemmas.{level-kept}
use Rattle.rl_record.proofs.Records.MatchLemmas.{BothMatched-undone}
use Rattle.rl_record.proofs.Records.UnitLemmas.{AllGood, AllGood-right, good_cuts, units-good}
use Rattle.rl_session.specs.Commands.{Step}
use Rattle.rl_session.specs.Performing.{Obeyed, within_group}
use Rattle.rl_session.specs.Forgetting.{within_bound}
use Rattle.rl_session.specs.declared.session.Fault.TheVariants.{NoMemory}
use Rattle.rl_session.specs.declared.session.Reply.TheVariants as says

-- the units after the Begin that is open last open no group
opens-drop : (m : ℕ) (us : List UndoUnit) → m < size_to_open us → opens (drop m us) ≡ opens us
opens-drop zero us few = refl
opens-drop (suc m) [] few = absurd (omega (arith, few))
opens-drop (suc m) (Open ∷ us) few = absurd (omega (arith, few))
opens-drop (suc m) (Whole es ∷ us) few = opens-drop m us (omega (arith, few))

none-drop : (m : ℕ) (us : List UndoUnit) → opens us ≡ 0 → opens (drop m us) ≡ 0
none-drop zero us none = none
none-drop (suc m) [] none = none
none-drop (suc m) (Open ∷ us) none = cc
none-drop (suc m) (Whole es ∷ us) none = none-drop m us none

-- what an undo leaves recorded has the units that it leaves
kept-units : (n : ℕ) (es : List Entry) → IsMatched es → units (kept_of n es) ≡ drop (max n 1) (units es)
kept-units n es h =
    let us = units es in
    let good = AllGood-right (take (max n 1) us) (drop (max n 1) us) (subst AllGood (sym (take-append-drop (max n 1) us)) (units-good es h)) in
    good_cuts (drop (max n 1) us) [] good ∙ append-nil (drop (max n 1) us)

some-made : (k : ℕ) → ¬ (Some k ≡ Some 0) → 0 < k
some-made zero h = absurd (h refl)
some-made (suc k) h = omega arith

none-open : (k : ℕ) → not (k == 0) ≡ false → k ≡ 0
none-open k e = eqb-true k 0 (from (k == 0) e)
  where
    from : (b : Bool) → not b ≡ false → b ≡ true
    from true e = refl
    from false e = cc

level-stays : (n : ℕ) (es : List Entry) → IsMatched es → ¬ (units_in_group es ≡ Some 0) → level (kept_of (within_group (units_in_group es) n) es) ≡ level es
level-stays n es h = from (is_open es) refl
  where
    from : (b : Bool) → is_open es ≡ b → ¬ (cond b (Some (open_size es - 1)) None ≡ Some 0) → level (kept_of (within_group (cond b (Some (open_size es - 1)) None) n) es) ≡ level es
    from true e some =
        let m = min (max n 1) (open_size es - 1) in
        ap opens (kept-units m es h) ∙ opens-drop (max m 1) (units es) (omega (arith, some-made (open_size es - 1) some))
    from false e some =
        let none : level es ≡ 0 = none-open (level es) e in
        ap opens (kept-units n es h) ∙ none-drop (max n 1) (units es) none ∙ sym none

-- the record that an undo leaves
undo-leaves : (n : ℕ) (old left : State) (reply : Reply) → Step old (Undo n) reply left → (left.pair.changes ≡ undone n old.pair.changes) ⊎ (left.pair.changes ≡ old.pair.changes)
undo-leaves n old left (says.Answer a) s = inl (ap (λ (s : State). s.pair.changes) s.settles ∙ s.does.0.record_is)
undo-leaves n old left (says.Refused NoMemory) s = inr (ap (λ (s : State). s.pair.changes) (s.settles ∙ s.does.1))
undo-leaves n old left _ s = absurd s.does

abbrev open_in : State → ℕ
open_in s = level s.pair.changes.recorded

pub level-Obeyed : (old new : State) (n : ℕ) (reply : Reply) → BothMatched old.pair.changes → Obeyed old (Undo n) reply new → level new.pair.changes.recorded ≡ level old.pair.changes.recorded
level-Obeyed old new n reply h (inl stopped) = ap open_in stopped.1
level-Obeyed old new n reply h (inr (inl unkept)) = ap open_in unkept.2.1
level-Obeyed old new n reply h (inr (inr done)) =
    let r = old.pair.changes in
    let m = within_group (units_in_group r.recorded) n in
    let step = subst (λ s. Step s (Undo m) reply done.left) done.keeps.1.1 done.step in
    let forgot = done.forgets.is ∙ ap within_bound done.unites in
    let kept = level-kept done.left.options.bound.entries done.left.options.bound.bytes done.left.pair.changes.recorded in
    let left = elim (undo-leaves m old done.left reply step) as (λ _. IsMatched done.left.pair.changes.recorded × (open_in done.left ≡ open_in old)) [
      | inl is ↦ (subst (λ (k : Record). IsMatched k.recorded) (sym is) (BothMatched-undone m r h).recorded, ap (λ (k : Record). level k.recorded) is ∙ level-stays n r.recorded h.recorded (λ none. done.free (inl none)))
      | inr is ↦ (subst (λ (k : Record). IsMatched k.recorded) (sym is) h.recorded, ap (λ (k : Record). level k.recorded) is)
    ] in
    ap open_in forgot ∙ kept left.0 ∙ left.1
