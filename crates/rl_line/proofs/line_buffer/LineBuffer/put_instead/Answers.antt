use Rattle.rl_line.proofs.Common.{IsUtf8, Line, ap, rules, subst, ◌∙◌}
use Rattle.rl_base.proofs.Texts.EventLemmas.{apply-Replace}
use Rattle.rl_base.proofs.Texts.TextLemmas.{IsCharBoundary-past_replacement}
use Rattle.rl_line.proofs.Plans.PlanLemmas.{Taken-one}
use Rattle.rl_line.proofs.line_buffer.LineBuffer.put_instead.Goals as goal

pub returns-clause-step : goal.returns-clause-step
returns-clause-step g c =
    let text = c.args.self.now.text in
    let range = c.args.range in
    let utf8 = subst IsUtf8 (c.as_str.ensures.value ∙ ap (λ (l : Line). l.text) (c.find_room_instead.ensures.line ∙ c.self.view_is)) c.as_str.utf8 in
    let taken = Taken-one _ _ _ _ _ _ _ (apply-Replace text range.start range.end c.args.text.now utf8 c.utf8.text c.requires.0 c.requires.1 c.requires.2)
    (IsCharBoundary-past_replacement text range.start range.end c.args.text.now utf8 c.requires.0 c.requires.2) (search rules) (search rules) in
    record { taken = taken; cursor = search rules }

pub returns-clause-line : goal.returns-clause-line
returns-clause-line g c = search rules
