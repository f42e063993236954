use Rattle.rl_base.proofs.Common.{Gathering, Ring, ap, arith, length, length-map, sum_by}
use Rattle.rl_base.proofs.Texts.SavingLemmas.{saved_length}
use Rattle.rl_base.proofs.kill_ring.KillRing.saved_len.Goals as goal

pub returns : goal.returns
returns c =
    let slots = ap (λ (r : Ring). r.slots) c.self.view_is in
    let len = length-map c.self.inside.slots.list.items (λ (g : Gathering). g.text) in
    saved_length c.args.self.now c.saturating_add-heads.result c.saturating_add.result
    (omega (arith, ap length slots, len, c.len.ensures, c.saturating_mul.ensures, c.saturating_add-heads.ensures))
    (omega (arith, ap (sum_by length) slots, c.bytes.ensures, c.saturating_add.ensures))
