use Rattle.rl_base.proofs.Common.{drop, string_bytes}
use Rattle.rl_base.proofs.Queue.QueueLemmas.{Cuts-told}
use Rattle.rl_base.proofs.notes.Notes.tell_last.Goals as goal

pub invariant_of-self : goal.invariant_of-self
invariant_of-self c =
    let i = c.self.inside in
    (c.self.invariant.0, c.self.invariant.1, c.self.invariant.2, rw c.tell_last.ensures.items (Cuts-told i.text_room c.args.before c.args.after i.waiting.items (drop i.spent (string_bytes i.texts)) c.self.invariant.3))
