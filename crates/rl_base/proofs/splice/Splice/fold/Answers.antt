use Rattle.rl_base.proofs.Common.{◌≡◌, ◌+◌, ◌-◌, min, max, refl, ◌∙◌, arith, capped}
use Rattle.rl_base.proofs.splice.Splice.fold.Goals.{then-self-end, else-self-end, then-place-self, else-place-self}
use Rattle.rl_base.proofs.splice.Splice.fold.Goals as goal

pub returns : goal.returns
returns c =
    let s = c.args.self.now in
    let end = c.saturating_add-end.result in
    let reached : c.if-self-end.self ≡ record { from = s.from; old_end = capped (s.old_end + (max s.new_end end - s.new_end)); new_end = max s.new_end end } = elim c.if-self-end.branch [
      | then-self-end w ↦ let top : max s.new_end end ≡ end = omega (arith, w.if-self-end.true) in w.self-is ∙ rw (w.saturating_add-self.ensures, top) refl
      | else-self-end w ↦
          let top : max s.new_end end ≡ s.new_end = omega (arith, w.if-self-end.false) in
          let old_end : capped (s.old_end + (s.new_end - s.new_end)) ≡ s.old_end = omega arith in
          w.self-is ∙ rw (top, old_end) refl
    ] in
    let begun : c.if-place-self.self ≡ record c.if-self-end.self { from = min c.if-self-end.self.from c.args.place } = elim c.if-place-self.branch [
      | then-place-self w ↦ let least : min c.if-self-end.self.from c.args.place ≡ c.args.place = omega (arith, w.if-place-self.true) in w.self-is ∙ rw least refl
      | else-place-self w ↦
          let least : min c.if-self-end.self.from c.args.place ≡ c.if-self-end.self.from = omega (arith, w.if-place-self.false) in w.self-is ∙ rw least refl
    ] in
    rw (c.saturating_add-self-2.ensures, begun, reached, c.saturating_add-end.ensures) refl
