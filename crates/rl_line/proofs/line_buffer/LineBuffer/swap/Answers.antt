use Rattle.rl_line.proofs.Common.{HasRoom, IsUtf8, Line, Taken, ap, err_from_is_err_and, exchange_plan, inl, replace_range, subst, swap_plan, ◌∙◌, ◌≡◌}
use Rattle.rl_line.proofs.Plans.PlanLemmas.{Done-steps, Halted-back, Halted-front, Taken-append}
use Rattle.rl_line.proofs.Plans.TranspositionLemmas.{HalfSwapped, HasRoom-swapped, last_steps, places, swap-front, swap-halves}
use Rattle.rl_line.proofs.line_buffer.LineBuffer.swap.Given.{Over}
use Rattle.rl_line.proofs.line_buffer.LineBuffer.swap.Goals.{After-as_str-3, After-find_room_instead}
use Rattle.rl_line.proofs.line_buffer.LineBuffer.swap.Goals as goal

-- finding room leaves the line as it is
kept : (g : Over) (c : After-find_room_instead g)
    → c.find_room_instead.new.self.line ≡ c.args.self.now
kept g c = c.find_room_instead.ensures.line ∙ c.self.view_is

pub returns-in_err-exchange_steps : goal.returns-in_err-exchange_steps
returns-in_err-exchange_steps g c =
    let p = err_from_is_err_and c.from_residual-in_err-exchange_steps.result c.from_residual-in_err-exchange_steps.ensures.1 in
    let line = c.args.self.now in
    let first = c.args.first in
    let second = c.args.second in
    let x = c.as_str-2.result.now in
    let same = kept g (goal.at.returns-in_err-exchange_steps g c).After-find_room_instead in
    rw (p.1, p.2) (inl (Halted-front _ _ (swap_plan line first second) (exchange_plan line second first.end x first.end) (last_steps line first second) _ _ _ _ _
    (rw same at c.in_err-exchange_steps.ensures.steps)
    (swap-front line first second x (c.as_str-2.ensures.value ∙ c.in_ok-first_text.ensures.ok))))

-- the line after the first exchange
abbrev middle : (g : Over) → After-as_str-3 g → Line
middle g c = c.exchange_steps.new.self.line

half : (g : Over) (c : After-as_str-3 g) → HalfSwapped c.args.self.now (middle g c) c.args.first c.args.second c.as_str-2.result.now c.as_str-3.result.now
half g c =
    let second = c.args.second in
    let x = c.as_str-2.result.now in
    record {
      goes = c.as_str-2.ensures.value ∙ c.in_ok-first_text.ensures.ok;
      comes = c.as_str-3.ensures.value ∙ c.in_ok-second_text.ensures.ok;
      text = c.in_ok-exchange_steps.ensures.text ∙ ap (λ (l : Line). replace_range l.text second.start second.end x) (kept g (goal.at.After-as_str-3 g c).After-find_room_instead);
      utf8 = subst IsUtf8 c.as_str-text.ensures c.as_str-text.utf8;
      part_utf8 = c.as_str-2.utf8;
      first_order = c.requires.first;
      second_order = c.requires.second;
      apart = c.requires.apart;
      first_start = c.requires.first_start;
      first_end = c.requires.first_end;
      second_start = c.requires.second_start;
      second_end = c.requires.second_end;
    }

pub exchange_steps-requires-2-clause-range : goal.exchange_steps-requires-2-clause-range
exchange_steps-requires-2-clause-range g c =
    let at = places (half g (goal.at.exchange_steps-requires-2-clause-range g c).After-as_str-3) in (c.requires.first, at.start, at.stop)

pub exchange_steps-requires-2-clause-between : goal.exchange_steps-requires-2-clause-between
exchange_steps-requires-2-clause-between g c = (places (half g (goal.at.exchange_steps-requires-2-clause-between g c).After-as_str-3)).gap

pub exchange_steps-requires-2-clause-cursor : goal.exchange_steps-requires-2-clause-cursor
exchange_steps-requires-2-clause-cursor g c = (places (half g (goal.at.exchange_steps-requires-2-clause-cursor g c).After-as_str-3)).last

-- the text is again as long as before the edit, and has as many newlines
pub exchange_steps-requires-2-clause-room : goal.exchange_steps-requires-2-clause-room
exchange_steps-requires-2-clause-room g c =
    let d = goal.at.exchange_steps-requires-2-clause-room g c in
    HasRoom-swapped (half g d.After-as_str-3) c.exchange_steps.new.self (subst (λ (l : Line). HasRoom l.text c.exchange_steps.new.self) (kept g d.After-find_room_instead) c.in_ok-exchange_steps.ensures.room.back)

-- the steps of the first exchange
taken : (g : Over) (c : After-as_str-3 g)
    → Taken g.L.DeleteListener.step (exchange_plan c.args.self.now c.args.second c.args.first.end c.as_str-2.result.now c.args.first.end).steps c.args.self.now (middle g c) c.args.listener.now c.exchange_steps.new.listener
taken g c = rw (kept g (goal.at.After-as_str-3 g c).After-find_room_instead) at c.in_ok-exchange_steps.ensures.steps.taken

pub returns-in_err-exchange_steps-2 : goal.returns-in_err-exchange_steps-2
returns-in_err-exchange_steps-2 g c =
    let p = err_from_is_err_and c.from_residual-in_err-exchange_steps-2.result c.from_residual-in_err-exchange_steps-2.ensures.1 in
    let d = (goal.at.returns-in_err-exchange_steps-2 g c).After-as_str-3 in
    rw (p.1, p.2) (inl (Halted-back _ _ (swap_plan c.args.self.now c.args.first c.args.second) _ _ _ (middle g d) _ _ _ _ _
    (taken g d) c.in_err-exchange_steps-2.ensures.steps (swap-halves (half g d))))

pub returns : goal.returns
returns g c =
    let d = (goal.at.returns g c).After-as_str-3 in
    Done-steps _ (swap_plan c.args.self.now c.args.first c.args.second) _ _ _ _ _
    (Taken-append _ _ _ _ (middle g d) _ _ _ _ (taken g d) c.in_ok-exchange_steps-2.ensures.steps.taken)
    (swap-halves (half g d)) c.in_ok-exchange_steps-2.ensures.steps.cursor
