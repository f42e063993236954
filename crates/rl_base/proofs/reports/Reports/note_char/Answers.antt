use Rattle.rl_base.proofs.Common.{◌<◌, [], ◌∙◌, ap, encode_utf8, length, sym, noted}
use Rattle.rl_base.specs.declared.reports.ReportKind.TheVariants as kind
use Rattle.rl_base.proofs.Queue.QueueLemmas.{IsQueue-push, from_ok, kept-all}
use Rattle.rl_base.proofs.reports.Reports.note_char.Goals as goal

pub invariant_of-self : goal.invariant_of-self
invariant_of-self c =
    let i = c.self.inside in
    let n = noted i.notes.text_room kind.CharInserted c.args.at [] (encode_utf8 c.args.c) in
    let some : 0 < i.notes.text_room = rw (← c.self.view_is) at c.requires in
    let bytes = c.len_utf8-len.ensures.len ∙ sym (ap length (kept-all i.notes.text_room (encode_utf8 c.args.c) some)) in
    IsQueue-push i.room i.notes c.push_char.new.self n i.folded c.self.invariant c.push_char.ensures.room
    (from_ok c.push_char.result _ c.push_char.ensures.done (sym c.if-is_err.ensures.value)) (sym (rw (← c.self.view_is, bytes) at c.if-not-has_room.ensures))
