use Rattle.rl_base.proofs.Common.{arith}
use Rattle.rl_base.proofs.Queue.QueueLemmas.{takes}
use Rattle.rl_base.proofs.notes.Notes.take.Goals as goal

pub invariant_of-self-2 : goal.invariant_of-self-2
invariant_of-self-2 c =
    let t = takes c.self.inside.text_room _ _ _ _ _ _ c.self.invariant.1 c.self.invariant.3 c.in_ok-oldest.ensures.items c.bytes_kept.ensures in
    (omega arith, t.spent_within, t.begins, t.cuts)

pub returns-clause-waiting : goal.returns-clause-waiting
returns-clause-waiting c =
    rw (← c.self.view_is) (takes c.self.inside.text_room _ _ _ _ _ _ c.self.invariant.1 c.self.invariant.3 c.in_ok-oldest.ensures.items c.bytes_kept.ensures).waits

pub returns-clause-texts : goal.returns-clause-texts
returns-clause-texts c =
    rw (← c.self.view_is) (takes c.self.inside.text_room _ _ _ _ _ _ c.self.invariant.1 c.self.invariant.3 c.in_ok-oldest.ensures.items c.bytes_kept.ensures).texts
