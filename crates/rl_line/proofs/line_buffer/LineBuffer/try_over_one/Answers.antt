use Rattle.rl_line.proofs.Common.{Any, HasRoom, IsCharBoundary, IsUtf8, Line, List, NeedsRoom, Some, [], ap, arith, cursor_after, entry_to_undo, err_from_is_err_and, inverse, is_some, length, line_back, new_text, old_text, place, refl, replace_range, subst, sym, text_after, texts_back, true, unwrap_or, ℕ, ◌+◌, ◌∙◌, ◌∷◌, ◌≡◌}
use Rattle.rl_line.proofs.Changes.BackLemmas.{line_back-is_some}
use Rattle.rl_line.proofs.Changes.ChangeLemmas.{leads-by, none-reached, place-entry_to_undo}
use Rattle.rl_line.proofs.Changes.GoingLemmas.{GoesOver, goes_over}
use Rattle.rl_line.proofs.Changes.RoomLemmas.{NeedsRoom-one}
use Rattle.rl_line.proofs.line_buffer.LineBuffer.try_over_one.Goals.{After-leads_by, After-unwrap_or-after}
use Rattle.rl_line.proofs.line_buffer.LineBuffer.try_over_one.Goals as goal

at_place : (c : After-leads_by) → place (entry_to_undo c.args.way c.args.change.now) ≡ Some c.in-Some.at
at_place c = place-entry_to_undo c.args.way c.args.change.now ∙ sym c.place.ensures ∙ c.in-Some.is

-- what the question answers
asked : (c : After-leads_by) → c.leads_by.result ≡ is_some (line_back (entry_to_undo c.args.way c.args.change.now ∷ []) c.args.self.now)
asked c =
    let e = entry_to_undo c.args.way c.args.change.now in
    let line = c.args.self.now in
    c.leads_by.ensures
    ∙ leads-by e c.as_str-text.result.now c.in-Some.at c.texts.result.0.now c.texts.result.1.now c.cursor_over-told.result (at_place c) (subst IsUtf8 c.texts.ensures.coming c.texts.ensures.utf8) c.texts.ensures.going c.texts.ensures.coming c.cursor_over-told.ensures
    ∙ ap (λ t. is_some (text_after true (inverse e) t)) (c.as_str-text.ensures.value ∙ ap (λ (l : Line). l.text) c.self.view_is)
    ∙ line_back-is_some (e ∷ []) line c.pos-cursor.ensures.utf8 (subst (IsCharBoundary line.text) c.pos-cursor.ensures.place c.pos-cursor.ensures.boundary)

goes : (c : After-leads_by) → c.leads_by.result ≡ true → GoesOver (entry_to_undo c.args.way c.args.change.now) c.self.inside.line.line c.in-Some.at
goes c leads = goes_over _ _ _ (at_place c) (rw c.self.view_is (sym (asked c) ∙ leads))

pub returns-then-not-leads_by-clause-no : goal.returns-then-not-leads_by-clause-no
returns-then-not-leads_by-clause-no c = λ _. (none-reached _ (sym (asked (goal.at.returns-then-not-leads_by-clause-no c).After-leads_by) ∙ c.if-not-leads_by.true), refl)

pub overflow_add-to : goal.overflow_add-to
overflow_add-to c =
    omega (arith, (goes (goal.at.overflow_add-to c).After-leads_by c.if-not-leads_by.false).range.2.0, ap length c.texts.ensures.going, c.as_str-text.ensures.fits, ap length c.as_str-text.ensures.value)

pub find_room_instead-requires : goal.find_room_instead-requires
find_room_instead-requires c = rw c.texts.ensures.going (goes (goal.at.find_room_instead-requires c).After-leads_by c.if-not-leads_by.false).range

pub returns-in_err-find_room_instead-clause-err : goal.returns-in_err-find_room_instead-clause-err
returns-in_err-find_room_instead-clause-err c =
    let p = err_from_is_err_and c.from_residual.result c.from_residual.ensures.1 in
    let refused = c.in_err-find_room_instead.ensures.err in
    let d = goes (goal.at.returns-in_err-find_room_instead-clause-err c).After-leads_by c.if-not-leads_by.false in
    let e = entry_to_undo c.args.way c.args.change.now in
    let text = c.self.inside.line.line.text in
    let more : NeedsRoom (new_text e) (old_text e) = rw (c.texts.ensures.going, c.texts.ensures.coming, d.bytes) at refused.1 in
    let needs : Any (NeedsRoom text) (texts_back (e ∷ []) text) = NeedsRoom-one e text _ (subst IsUtf8 c.as_str-text.ensures.value c.as_str-text.utf8) d.makes more in
    rw (p.1, p.2) (refused.0, c.find_room_instead.ensures.line ∙ c.self.view_is, subst (λ (l : Line). Any (NeedsRoom l.text) (texts_back (e ∷ []) l.text)) c.self.view_is needs)

went : (c : After-unwrap_or-after) → c.unwrap_or-after.result ≡ cursor_after c.self.inside.line.line.cursor (inverse (entry_to_undo c.args.way c.args.change.now))
went c =
    c.unwrap_or-after.ensures ∙ ap (λ (t : List ℕ). unwrap_or c.cursor_over-told.result (c.in-Some.at + length t)) c.texts.ensures.coming
    ∙ (goes (goal.at.After-unwrap_or-after c).After-leads_by c.if-not-leads_by.false).cursor _ c.cursor_over-told.ensures

pub overflow_add-at : goal.overflow_add-at
overflow_add-at c = omega (arith, (goes (goal.at.overflow_add-at c).After-leads_by c.if-not-leads_by.false).range.1.0, c.as_str-text.ensures.fits, ap length c.as_str-text.ensures.value)

pub swap_in-requires-clause-range : goal.swap_in-requires-clause-range
swap_in-requires-clause-range c = rw (c.find_room_instead.ensures.line, c.texts.ensures.going) (goes (goal.at.swap_in-requires-clause-range c).After-leads_by c.if-not-leads_by.false).range

pub swap_in-requires-clause-room : goal.swap_in-requires-clause-room
swap_in-requires-clause-room c =
    let to = c.in-Some.at + length c.texts.result.0.now in
    subst (λ (l : Line). HasRoom (replace_range l.text c.in-Some.at to c.texts.result.1.now) c.find_room_instead.new.self) (sym c.find_room_instead.ensures.line) c.in_ok-find_room_instead.ensures.room

pub swap_in-requires-clause-cursor : goal.swap_in-requires-clause-cursor
swap_in-requires-clause-cursor c =
    let d = (goal.at.swap_in-requires-clause-cursor c).After-unwrap_or-after in
    rw (c.find_room_instead.ensures.line, c.texts.ensures.going, c.texts.ensures.coming, went d) (goes (goal.at.After-unwrap_or-after d).After-leads_by c.if-not-leads_by.false).stands

pub returns-clause-ok : goal.returns-clause-ok
returns-clause-ok c = λ _.
    let d = (goal.at.returns-clause-ok c).After-unwrap_or-after in
    ap (line_back (entry_to_undo c.args.way c.args.change.now ∷ [])) (sym c.self.view_is)
    ∙ (goes (goal.at.After-unwrap_or-after d).After-leads_by c.if-not-leads_by.false).back _
    (rw (c.find_room_instead.ensures.line, c.texts.ensures.going, c.texts.ensures.coming, went d) at c.swap_in.ensures.line)
