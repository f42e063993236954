use Rattle.rl_record.proofs.Common.{IsCharBoundary, [], ap, entries_to_undo, entry_to_undo, inverse, is_some, line_back, refl, subst, sym, text_after, text_back, true, ◌∙◌, ◌∷◌}
use Rattle.rl_line.proofs.Changes.BackLemmas.{line_back-is_some}
use Rattle.rl_record.proofs.Records.LeadLemmas.{lone}
use Rattle.rl_record.proofs.Records.MoveLemmas.{GoesAs-all}
use Rattle.rl_record.proofs.changeset.questions.lead.Goals as goal

pub returns-clause-ok : goal.returns-clause-ok
returns-clause-ok c =
    let line = c.args.line.now in
    let es = entries_to_undo c.args.way c.args.entries.now in
    c.is_some.ensures ∙ ap is_some (c.in_ok-text.ensures.ok ∙ ap (text_back true es) c.as_str-2.ensures)
    ∙ line_back-is_some es line c.pos-cursor.ensures.utf8 (subst (IsCharBoundary line.text) c.pos-cursor.ensures.place c.pos-cursor.ensures.boundary)
    ∙ ap is_some ((GoesAs-all c.args.way c.args.entries.now _ refl).line line)

pub returns-then-entries-eq1-clause-ok : goal.returns-then-entries-eq1-clause-ok
returns-then-entries-eq1-clause-ok c =
    let line = c.args.line.now in
    let e = entry_to_undo c.args.way c.index-entries-0.result in
    c.leads.ensures ∙ ap (λ t. is_some (text_after true (inverse e) t)) c.as_str.ensures
    ∙ line_back-is_some (e ∷ []) line c.pos-cursor.ensures.utf8 (subst (IsCharBoundary line.text) c.pos-cursor.ensures.place c.pos-cursor.ensures.boundary)
    ∙ ap (λ es. is_some (line_back es line)) (sym (lone c.args.way c.args.entries.now c.index-entries-0.result c.if-entries-eq1.true c.index-entries-0.is))
    ∙ ap is_some ((GoesAs-all c.args.way c.args.entries.now _ refl).line line)
