-- A text that takes the place of a whole line's.
use Rattle.rl_session.proofs.Common.{◌≡◌, ◌∙◌, ℕ, ◌+◌, ◌-◌, inl, inr, List, [], ◌∷◌, ◌++◌, length, max, Some, refl, sym, ap, subst, arith, append-nil, length-append, take_all, IsUtf8-nil, slice_range, IsUtf8, Cursors, Replace, apply, Watched, watch_step, Refusal, replace_plan, Line, NeedsRoom, Done, Grows, Halted, Taken, or_no_memory, Record, Walks, rules}
use Rattle.rl_record.specs.Record.{no_changes}
use Rattle.rl_base.proofs.Texts.SwapLemmas.{apply-Replace-Swaps}
use Rattle.rl_line.specs.Plan.{Step}
use Rattle.rl_line.proofs.Plans.PlanLemmas.{first_step}

-- all of a text gives way to another
pub apply-all : (old new : List ℕ) → IsUtf8 old → IsUtf8 new → apply (Replace 0 old new) old ≡ Some new
apply-all old new u v = search (rules, apply-Replace-Swaps, append-nil, IsUtf8-nil)

part-all : (text : List ℕ) (end : ℕ) → end ≡ length text → slice_range text 0 end ≡ text
part-all text end e = take_all (end - 0) text (omega (arith, e))

-- the one step by which it does
abbrev all_step : Line → ℕ → List ℕ → Step
all_step old end text = (Replace 0 (slice_range old.text 0 end) text, 0 + length text)

pub Renewed : (old new : Line) (before now : Watched) (text : List ℕ) (end : ℕ) (a : Unit {0}) → end ≡ length old.text → IsUtf8 old.text → IsUtf8 text
    → Done watch_step (replace_plan old 0 end text) old new before now a
    → (new ≡ record old { text = text; cursor = length text; limit = max old.limit (length text) })
    × (now ≡ watch_step (watch_step before (Replace 0 old.text text)) (Cursors old.cursor (length text)))
Renewed old new before now text end a e u v d = grind (arith, part-all, first_step, apply-all)

pub Kept : (old new : Line) (before now : Watched) (text : List ℕ) (end : ℕ) (r : Refusal) → end ≡ length old.text
    → Halted watch_step (or_no_memory (λ _ _ _ _. ⊥)) (replace_plan old 0 end text) old new before now r
    → NeedsRoom old.text text × (new ≡ old) × (now ≡ before)
Kept old new before now text end r e h = from h.first h.split h.taken
  where
    from : (first : List Step) → all_step old end text ∷ [] ≡ first ++ h.next ∷ h.others → Taken watch_step first old new before h.middle → NeedsRoom old.text text × (new ≡ old) × (now ≡ before)
    from [] split t =
        let next : all_step old end text ≡ h.next = cc in
        let same : old ≡ new = cc in
        elim h.cause [
          | inl c ↦ (
            subst (λ p. NeedsRoom p text) (part-all old.text end e) (subst (λ (s : Step). Grows s.0) (sym next) c.2),
            sym same,
            c.1 ∙ t.listener,
          )
          | inr c ↦ absurd c
        ]
    from (x ∷ xs) split t = absurd (omega (arith, ap length split, length-append xs (h.next ∷ h.others)))

-- nothing recorded leads from a text to itself
pub Walks-nothing : (r : Record) (text : List ℕ) → r ≡ no_changes → IsUtf8 text → Walks r text
Walks-nothing r text e u = rw e record { start = text; is_text = u; back = refl; end = text; ahead = refl; stale = refl }
