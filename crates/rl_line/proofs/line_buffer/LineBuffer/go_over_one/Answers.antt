use Rattle.rl_line.proofs.Common.{Any, HasRoom, IsUtf8, Line, List, NeedsRoom, Some, [], ap, arith, cursor_after, entry_to_undo, err_from_is_err_and, inverse, length, line_back, new_text, old_text, place, replace_range, subst, sym, texts_back, unwrap_or, ℕ, ◌+◌, ◌∙◌, ◌∷◌, ◌≡◌}
use Rattle.rl_line.proofs.Changes.ChangeLemmas.{place-entry_to_undo}
use Rattle.rl_line.proofs.Changes.GoingLemmas.{GoesOver, goes_over}
use Rattle.rl_line.proofs.Changes.RoomLemmas.{NeedsRoom-one}
use Rattle.rl_line.proofs.line_buffer.LineBuffer.go_over_one.Given.{Over}
use Rattle.rl_line.proofs.line_buffer.LineBuffer.go_over_one.Goals.{After-texts, After-unwrap_or-after}
use Rattle.rl_line.proofs.line_buffer.LineBuffer.go_over_one.Goals as goal

at_place : (g : Over) (c : After-texts g) → place (entry_to_undo c.args.way c.args.change.now) ≡ Some c.in-Some.at
at_place g c = place-entry_to_undo c.args.way c.args.change.now ∙ sym c.place.ensures ∙ c.in-Some.is

goes : (g : Over) (c : After-texts g) → GoesOver (entry_to_undo c.args.way c.args.change.now) c.self.inside.line.line c.in-Some.at
goes g c = goes_over _ _ _ (at_place g c) (rw c.self.view_is c.requires.fits)

pub overflow_add-to : goal.overflow_add-to
overflow_add-to g c =
    omega (arith, (goes g (goal.at.overflow_add-to g c).After-texts).range.2.0, ap length c.texts.ensures.going, c.as_str-text.ensures.fits, ap length c.as_str-text.ensures.value)

pub find_room_instead-requires : goal.find_room_instead-requires
find_room_instead-requires g c = rw c.texts.ensures.going (goes g (goal.at.find_room_instead-requires g c).After-texts).range

pub returns-in_err-find_room_instead-clause-err : goal.returns-in_err-find_room_instead-clause-err
returns-in_err-find_room_instead-clause-err g c =
    let p = err_from_is_err_and c.from_residual.result c.from_residual.ensures.1 in
    let refused = c.in_err-find_room_instead.ensures.err in
    let d = goes g (goal.at.returns-in_err-find_room_instead-clause-err g c).After-texts in
    let e = entry_to_undo c.args.way c.args.change.now in
    let text = c.self.inside.line.line.text in
    let more : NeedsRoom (new_text e) (old_text e) = rw (c.texts.ensures.going, c.texts.ensures.coming, d.bytes) at refused.1 in
    let needs : Any (NeedsRoom text) (texts_back (e ∷ []) text) = NeedsRoom-one e text _ (subst IsUtf8 c.as_str-text.ensures.value c.as_str-text.utf8) d.makes more in
    rw (p.1, p.2) (refused.0, c.find_room_instead.ensures.line ∙ c.self.view_is, subst (λ (l : Line). Any (NeedsRoom l.text) (texts_back (e ∷ []) l.text)) c.self.view_is needs)

went : (g : Over) (c : After-unwrap_or-after g) → c.unwrap_or-after.result ≡ cursor_after c.self.inside.line.line.cursor (inverse (entry_to_undo c.args.way c.args.change.now))
went g c =
    c.unwrap_or-after.ensures ∙ ap (λ (t : List ℕ). unwrap_or c.cursor_over.result (c.in-Some.at + length t)) c.texts.ensures.coming
    ∙ (goes g (goal.at.After-unwrap_or-after g c).After-texts).cursor _ c.cursor_over.ensures

pub overflow_add-at : goal.overflow_add-at
overflow_add-at g c = omega (arith, (goes g (goal.at.overflow_add-at g c).After-texts).range.1.0, c.as_str-text.ensures.fits, ap length c.as_str-text.ensures.value)

pub swap_in-requires-clause-range : goal.swap_in-requires-clause-range
swap_in-requires-clause-range g c = rw (c.find_room_instead.ensures.line, c.texts.ensures.going) (goes g (goal.at.swap_in-requires-clause-range g c).After-texts).range

pub swap_in-requires-clause-room : goal.swap_in-requires-clause-room
swap_in-requires-clause-room g c =
    let to = c.in-Some.at + length c.texts.result.0.now in
    subst (λ (l : Line). HasRoom (replace_range l.text c.in-Some.at to c.texts.result.1.now) c.find_room_instead.new.self) (sym c.find_room_instead.ensures.line) c.in_ok-find_room_instead.ensures.room

pub swap_in-requires-clause-cursor : goal.swap_in-requires-clause-cursor
swap_in-requires-clause-cursor g c =
    let d = (goal.at.swap_in-requires-clause-cursor g c).After-unwrap_or-after in
    rw (c.find_room_instead.ensures.line, c.texts.ensures.going, c.texts.ensures.coming, went g d) (goes g (goal.at.After-unwrap_or-after g d).After-texts).stands

pub returns-clause-ok : goal.returns-clause-ok
returns-clause-ok g c =
    let d = (goal.at.returns-clause-ok g c).After-unwrap_or-after in
    ap (line_back (entry_to_undo c.args.way c.args.change.now ∷ [])) (sym c.self.view_is)
    ∙ (goes g (goal.at.After-unwrap_or-after g d).After-texts).back _
    (rw (c.find_room_instead.ensures.line, c.texts.ensures.going, c.texts.ensures.coming, went g d) at c.swap_in.ensures.line)
