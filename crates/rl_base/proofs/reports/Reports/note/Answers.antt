use Rattle.rl_base.proofs.Common.{◌∙◌, ap₂, sym, bytes_kept, noted}
use Rattle.rl_base.proofs.Queue.QueueLemmas.{IsQueue-push, from_ok, length-kept}
use Rattle.rl_base.proofs.reports.Reports.note.Goals as goal

pub invariant_of-self : goal.invariant_of-self
invariant_of-self c =
    let i = c.self.inside in
    let n = noted i.notes.text_room c.args.kind c.args.at c.args.gone.now c.args.come.now in
    let bytes = c.bytes_kept.ensures ∙ ap₂ bytes_kept c.text_room.ensures c.report_of-report.ensures ∙ sym (length-kept i.notes.text_room c.args.kind c.args.at c.args.gone.now c.args.come.now) in
    IsQueue-push i.room i.notes c.push.new.self n i.folded c.self.invariant c.push.ensures.room
    (from_ok c.push.result _ c.push.ensures.done (sym c.if-is_err.ensures.value)) (sym (rw (← c.self.view_is, bytes) at c.if-not-has_room.ensures))
