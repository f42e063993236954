use Rattle.rl_base.proofs.Common.{◌<◌, Gathering, arith, length, length-map, texts}
use Rattle.rl_base.proofs.Ring.BoundLemmas.{join-counts}
use Rattle.rl_base.proofs.Ring.RingLemmas.{join-past}
use Rattle.rl_base.proofs.kill_ring.slots.Slots.join_text.Goals as goal

pub returns-then-index-len-clause-ok : goal.returns-then-index-len-clause-ok
returns-then-index-len-clause-ok c =
    let list = c.args.self.now.list in
    join-past (texts list.items) c.args.index c.args.mode c.args.text.now
    (λ at. omega (arith, at, list.ok.0, c.len.ensures, c.if-index-len.true, length-map list.items (λ (g : Gathering). g.text)))

pub invariant_of-self-2 : goal.invariant_of-self-2
invariant_of-self-2 c =
    let list = c.args.self.now.list in
    let within : c.args.index < length (texts list.items) =
    omega (arith, list.ok.0, c.len.ensures, c.if-index-len.false, length-map list.items (λ (g : Gathering). g.text)) in
    record {
      counted = join-counts (texts c.join_at.new.slots.items) (texts list.items) c.args.index c.args.mode c.args.text.now c.in_ok-bytes.bytes c.args.self.now.bytes
          c.in_ok-join_at.ensures.ok within c.args.self.now.counted c.in_ok-bytes.ensures.ok;
    }
