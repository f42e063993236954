use Rattle.rl_base.proofs.Ring.BoundLemmas.{kept-and-gone}
use Rattle.rl_base.proofs.kill_ring.slots.bytes_kept.Goals as goal

pub loop-back-init : goal.loop-back-init
loop-back-init c = kept-and-gone c.args.slots.now c.args.newest c.args.kept c.args.all c.requires.all
