use Rattle.rl_base.proofs.Queue.QueueLemmas.{IsQueue-told}
use Rattle.rl_base.proofs.reports.ReportsDeleteListener.cursors.Goals as goal

pub invariant_of-self-in-None : goal.invariant_of-self-in-None
invariant_of-self-in-None c =
    let n = c.self.inside.notes in
    rw (c.tell_last.ensures, c.in-None.is) (IsQueue-told c.self.inside.room n.text_room n.places n.bytes c.args.before c.args.after n.waiting (rw c.in-None.is at c.self.invariant))
