-- What a listener keeps of a text at each change and its cursors, it keeps over the steps of a line.
use Rattle.rl_line.proofs.Common.{Cursors, Event, IsChange, IsCharBoundary, IsUtf8, Line, List, Some, Step, [], after, ap, apply, arith, length, listener_after, listener_after_step, stepped, subst, ℕ, ◌<◌, ◌^◌, ◌∷◌, ◌≡◌, ◌≤◌}
use Rattle.rl_base.proofs.Texts.SwapLemmas.{apply-IsUtf8}
use Rattle.rl_line.proofs.Plans.PlanLemmas.{first_step}

-- no step lowers the limit
pub limit_rises : (steps : List Step) (old new : Line) → after steps old ≡ Some new → old.limit ≤ new.limit
limit_rises [] old new e = let same : old ≡ new = cc in let limit : old.limit ≡ new.limit = ap (λ (l : Line). l.limit) same in omega arith
limit_rises (s ∷ ss) old new e = let b = first_step s ss old new e in omega (arith, limit_rises ss (stepped old b.text s.1) new b.rest)

-- each step changes the text: none is a mark, or tells cursors
abbrev pub AreChanges : List Step → Type 0
AreChanges [] = Unit {0}
AreChanges (s ∷ ss) = IsChange s.0 × AreChanges ss

module _ {L : Type 0} (step : L → Event → L) (Keeps : L → List ℕ → Type 0)
    (heard : (l : L) (event : Event) (before after : ℕ) (text new : List ℕ) → Keeps l text → IsUtf8 text → length text < 2 ^ 64 → length new < 2 ^ 64
    → IsChange event → IsCharBoundary text before → apply event text ≡ Some new → IsCharBoundary new after → Keeps (step (step l event) (Cursors before after)) new) where
  pub Keeps-after : (steps : List Step) (old new : Line) (l : L) → Keeps l old.text → IsUtf8 old.text → length old.text < 2 ^ 64 → new.limit < 2 ^ 64
      → AreChanges steps → IsCharBoundary old.text old.cursor → after steps old ≡ Some new → Keeps (listener_after step old.cursor steps l) new.text
  Keeps-after [] old new l k u small large c at e = let same : old ≡ new = cc in subst (λ (n : Line). Keeps l n.text) same k
  Keeps-after (s ∷ ss) old new l k u small large c at e =
      let b = first_step s ss old new e in
      let within : length b.text < 2 ^ 64 = omega (arith, limit_rises ss (stepped old b.text s.1) new b.rest) in
      let told = heard l s.0 old.cursor s.1 old.text b.text k u small within c.0 at b.makes b.stands in
      Keeps-after ss (stepped old b.text s.1) new (listener_after_step step old.cursor s l) told (apply-IsUtf8 s.0 old.text b.text u b.makes) within large c.1 b.stands b.rest
