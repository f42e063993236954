use Rattle.rl_line.proofs.Common.{List, ap, arith, cursor_after, entry_to_undo, inverse, length, sym, unwrap_or, ℕ, ◌+◌, ◌∙◌, ◌≡◌}
use Rattle.rl_line.proofs.Changes.ChangeLemmas.{place-entry_to_undo}
use Rattle.rl_line.proofs.Changes.GoingLemmas.{GoesOver, goes_over, over-mark}
use Rattle.rl_line.proofs.Changes.RoomLemmas.{length_back-is}
use Rattle.rl_line.proofs.going.go_over.Given.{Over}
use Rattle.rl_line.proofs.going.go_over.Goals.{After-texts, After-unwrap_or-after}
use Rattle.rl_line.proofs.going.go_over.Goals as goal

pub returns-in_default-clause-line : goal.returns-in_default-clause-line
returns-in_default-clause-line g c =
    over-mark _ _ (place-entry_to_undo c.args.way c.args.change.now ∙ sym c.in_default.ensures) c.cursor-here.ensures.within c.requires.follows

goes : (g : Over) (c : After-texts g) → GoesOver (entry_to_undo c.args.way c.args.change.now) (g.T.Steppable.line c.args.line.now) c.in-Some.place
goes g c = goes_over _ _ _ (place-entry_to_undo c.args.way c.args.change.now ∙ sym c.place.ensures ∙ c.in-Some.is) c.requires.follows

pub overflow_add-place : goal.overflow_add-place
overflow_add-place g c = omega (arith, (goes g (goal.at.overflow_add-place g c).After-texts).range.1.0, c.cursor-here.ensures.fits)

pub overflow_add-place-2 : goal.overflow_add-place-2
overflow_add-place-2 g c =
    omega (arith, (goes g (goal.at.overflow_add-place-2 g c).After-texts).range.2.0, ap length c.texts.ensures.going, c.cursor-here.ensures.fits)

went : (g : Over) (c : After-unwrap_or-after g) → c.unwrap_or-after.result ≡ cursor_after (g.T.Steppable.line c.args.line.now).cursor (inverse (entry_to_undo c.args.way c.args.change.now))
went g c =
    c.unwrap_or-after.ensures ∙ ap (λ (t : List ℕ). unwrap_or c.cursor_over.result (c.in-Some.place + length t)) c.texts.ensures.coming
    ∙ (goes g (goal.at.After-unwrap_or-after g c).After-texts).cursor _ c.cursor_over.ensures

pub step-requires-clause-range : goal.step-requires-clause-range
step-requires-clause-range g c = rw c.texts.ensures.going (goes g (goal.at.step-requires-clause-range g c).After-texts).range

pub step-requires-clause-room : goal.step-requires-clause-room
step-requires-clause-room g c =
    let d = goes g (goal.at.step-requires-clause-room g c).After-texts in
    let e = entry_to_undo c.args.way c.args.change.now in
    let text = (g.T.Steppable.line c.args.line.now).text in
    rw (c.texts.ensures.going, c.texts.ensures.coming) (omega (arith, c.requires.room, length_back-is e text _ c.cursor-here.ensures.utf8 d.makes))

pub step-requires-clause-cursor : goal.step-requires-clause-cursor
step-requires-clause-cursor g c =
    let d = (goal.at.step-requires-clause-cursor g c).After-unwrap_or-after in
    rw (c.texts.ensures.going, c.texts.ensures.coming, went g d) (goes g (goal.at.After-unwrap_or-after g d).After-texts).stands

pub returns-clause-line : goal.returns-clause-line
returns-clause-line g c =
    let d = (goal.at.returns-clause-line g c).After-unwrap_or-after in
    (goes g (goal.at.After-unwrap_or-after g d).After-texts).back _ (rw (c.texts.ensures.going, c.texts.ensures.coming, went g d) at c.step.ensures.line)
