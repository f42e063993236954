use Rattle.rl_base.proofs.Common.{◌++◌, ◌∷◌, [], refl, sym, arith, Noted}
use Rattle.rl_base.proofs.Queue.QueueLemmas.{IsQueue-push}
use Rattle.rl_base.proofs.reports.Reports.note_numbers.Goals as goal

pub invariant_of-self : goal.invariant_of-self
invariant_of-self c =
    let i = c.self.inside in
    let n : Noted = record { report = c.args.report; texts = [] } in
    rw c.push_numbers.ensures (IsQueue-push i.room i.notes (record i.notes { waiting = i.notes.waiting ++ n ∷ []; taken = [] }) n i.folded c.self.invariant (record { text_room = refl; places = omega arith; bytes = omega arith }) refl
    (sym (rw (← c.self.view_is) at c.if-not-has_room.ensures)))
