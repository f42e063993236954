use Rattle.rl_line.proofs.Common.{IsUtf8, entry_to_undo, subst, sym, ◌∙◌}
use Rattle.rl_line.proofs.Changes.ChangeLemmas.{leads-by, place-entry_to_undo}
use Rattle.rl_line.proofs.change.Change.leads.Goals as goal

pub returns-in-Some : goal.returns-in-Some
returns-in-Some c =
    c.leads_by.ensures
    ∙ leads-by (entry_to_undo c.args.way c.args.self.now) c.args.text.now c.in-Some.at c.texts.result.0.now c.texts.result.1.now c.cursor_over.result
    (place-entry_to_undo c.args.way c.args.self.now ∙ sym c.place.ensures ∙ c.in-Some.is) (subst IsUtf8 c.texts.ensures.coming c.texts.ensures.utf8) c.texts.ensures.going c.texts.ensures.coming c.cursor_over.ensures
