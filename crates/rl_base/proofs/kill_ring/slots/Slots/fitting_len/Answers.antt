use Rattle.rl_base.proofs.Common.{◌+◌, ◌-◌, ◌≡◌, arith, back_from, texts}
use Rattle.rl_base.proofs.Ring.BoundLemmas.{kept-all, kept-fits, kept-less, kept-some}
use Rattle.rl_base.proofs.kill_ring.slots.Slots.fitting_len.Goals as goal

pub loop-left-init : goal.loop-left-init
loop-left-init c =
    let list = c.args.self.now.list in
    kept-all c.args.bytes list.items c.args.newest c.len-kept.result c.args.self.now.bytes (omega (arith, c.len-kept.ensures, list.ok.0)) c.args.self.now.counted

pub loop-left-preserved : goal.loop-left-preserved
loop-left-preserved c =
    let ts = back_from c.args.newest (texts c.args.self.now.list.items) in
    let before = c.loop-left.invariant in
    let some = kept-some c.args.bytes ts c.loop-left.kept c.loop-left.left before c.loop-left-test.true in
    let less : c.loop-left.kept - 1 + 1 ≡ c.loop-left.kept = omega arith in
    rw (c.len_back-left.ensures, c.deref.ensures.value)
    (kept-less c.args.bytes ts c.loop-left.kept (c.loop-left.kept - 1) c.loop-left.left before c.loop-left-test.true less).1

pub returns : goal.returns
returns c =
    kept-fits c.args.bytes (back_from c.args.newest (texts c.args.self.now.list.items)) c.loop-left.kept c.loop-left.left c.loop-left.invariant c.loop-left-test.false
