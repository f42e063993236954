use Rattle.rl_base.proofs.Common.{◌≡◌, ◌∙◌, ◌++◌, ℕ, All, IfSome, IsRing, List, None, Option, Ring, Some, ap, refl, texts, ap₂, append_assoc, false, subst, sym}
use Rattle.std.specs.Option.{ok_or}
use Rattle.std.specs.Result.{IfOk}
use Rattle.rl_base.specs.SavedRing.{IsSavedRing, ring_numbers, saved_ring}
use Rattle.rl_base.specs.Saving.{Fits, IsSized, numbers, sized_all}
use Rattle.rl_base.specs.declared.saving.LoadFault.{LoadFault}
use Rattle.rl_base.specs.declared.saving.LoadFault.TheVariants.{Damaged}
use Rattle.rl_base.specs.declared.saving.Width.TheVariants.{Eight}
use Rattle.rl_base.proofs.kill_ring.KillRing.load.Goals as goal

-- numbers and slots that a ring has are its bytes
was-saved : (bytes mid rest head : List ℕ) (slots : List (List ℕ)) (found : Option Ring) (why : LoadFault) → bytes ≡ numbers Eight head ++ mid → All (Fits Eight) head
    → mid ≡ sized_all slots ++ rest → All IsSized slots
    → IfSome found (λ ring. (head ≡ ring_numbers ring) × (slots ≡ ring.slots) × IsRing ring × (ring.killing ≡ false))
    → IfOk (ok_or found why) (λ ring. (bytes ≡ saved_ring ring ++ rest) × IsSavedRing ring)
was-saved bytes mid rest head slots None why is fit then all made = tt
was-saved bytes mid rest head slots (Some ring) why is fit then all made = (
  is ∙ ap₂ (λ h s. numbers Eight h ++ s) made.0 (then ∙ ap (λ ts. sized_all ts ++ rest) made.1) ∙ sym (append_assoc (numbers Eight (ring_numbers ring)) (sized_all ring.slots) rest),
  record { ring = made.2; idle = made.3; fit = subst (All (Fits Eight)) made.0 fit; texts = subst (All IsSized) made.1 all },
)

pub returns-clause-read : goal.returns-clause-read
returns-clause-read c =
    let head = c.if-not-numbers.ensures.read refl in
    let slots = c.in_ok-slots.ensures.read in
    rw c.ok_or.ensures.value (
    was-saved c.args.bytes.now c.numbers.new.self c.load_slots.new.bytes c.numbers.new.found (texts c.in_ok-slots.slots.list.items) c.ring_of.result Damaged head.0 head.1 slots.0 slots.2 c.ring_of.ensures.read
    )
