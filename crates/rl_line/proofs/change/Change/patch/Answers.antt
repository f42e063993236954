use Rattle.rl_line.proofs.Common.{IsUtf8, Some, entry_to_undo, place, subst, sym, ◌∙◌, ◌≡◌}
use Rattle.rl_line.proofs.Changes.ChangeLemmas.{patch-makes, place-entry_to_undo}
use Rattle.rl_line.proofs.change.Change.patch.Goals.{After-swap}
use Rattle.rl_line.proofs.change.Change.patch.Goals as goal

at_place : (c : After-swap) → place (entry_to_undo c.args.way c.args.self.now) ≡ Some c.in-Some.at
at_place c = place-entry_to_undo c.args.way c.args.self.now ∙ sym c.place.ensures ∙ c.in-Some.is

pub returns-in-Some-clause-done : goal.returns-in-Some-clause-done
returns-in-Some-clause-done c =
    patch-makes c.swap.result (entry_to_undo c.args.way c.args.self.now) c.args.text.now c.swap.new.self c.in-Some.at c.texts.result.0.now c.texts.result.1.now
    (at_place (goal.at.returns-in-Some-clause-done c).After-swap) (subst IsUtf8 c.texts.ensures.coming c.texts.ensures.utf8) c.texts.ensures.going c.texts.ensures.coming c.swap.ensures.stands c.swap.ensures.done
