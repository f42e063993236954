use Rattle.rl_base.proofs.Common.{[], ◌∙◌, ap, back_from, length, sym, texts}
use Rattle.rl_base.proofs.Ring.BoundLemmas.{got-none, got-same}
use Rattle.rl_base.proofs.kill_ring.slots.len_back.Goals as goal

pub returns-in-Some : goal.returns-in-Some
returns-in-Some c =
    let ts = texts c.args.slots.now in
    c.len_at.ensures ∙ ap length (sym (got-same (back_from c.args.index ts) ts c.args.back c.in-Some.at [] c.in-Some.ensures))

pub returns-in-None : goal.returns-in-None
returns-in-None c = ap length (sym (got-none (back_from c.args.index (texts c.args.slots.now)) c.args.back [] c.in-None.ensures))
