use Rattle.rl_base.proofs.Common.{◌∙◌, ap, back_from, length, sum_by, sym, take, texts}
use Rattle.rl_base.proofs.Ring.BoundLemmas.{sum-reverse}
use Rattle.rl_base.proofs.kill_ring.slots.Slots.keep_newest.Goals as goal

pub invariant_of-self : goal.invariant_of-self
invariant_of-self c =
    let kept = take c.args.kept (back_from c.args.newest (texts c.args.self.now.list.items)) in
    record { counted = rw (c.bytes_kept-bytes.ensures, c.deref.ensures.value) (sym (ap (sum_by length) c.keep_newest.ensures ∙ sum-reverse kept)) }
