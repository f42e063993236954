use Rattle.rl_line.proofs.Common.{Plan, answering, ap, edit_word_plan, err_from_is_err_and, exchange_plan, refl, rules, slice_range, true, ◌+◌, ◌∙◌}
use Rattle.rl_line.proofs.Plans.LetterCaseLemmas.{edit_word_plan-some}
use Rattle.rl_line.proofs.Plans.PlanLemmas.{Done-as, Done-steps, Stopped-as}
use Rattle.rl_line.proofs.line_buffer.LineBuffer.edit_word.Goals as goal

pub returns-in_err-exchange : goal.returns-in_err-exchange
returns-in_err-exchange g c =
    let p = err_from_is_err_and c.from_residual-in_err-exchange.result c.from_residual-in_err-exchange.ensures.1 in
    let line = c.args.self.now in
    let made = c.as_str-2.result.now in
    let plan = exchange_plan line c.in-Some.word c.pos-at.result made (c.in-Some.word.start + c.len.result) in
    rw (p.1, p.2) (Stopped-as _ _ (edit_word_plan line c.args.action) plan _ _ _ _ _ (ap (λ (q : Plan _). q.steps) (edit_word_plan-some line c.args.action c.in-Some.word c.range-text.result.now made c.pos-at.result (c.in-Some.word.start + c.len.result) c.in-Some.ensures.value
    (c.range-text.ensures.value ∙ ap (λ t. slice_range t c.in-Some.word.start c.in-Some.word.end) c.as_str.ensures)
    (λ a. c.as_str-2.ensures.value ∙ c.in_ok-made.ensures.ascii a) (λ n. c.as_str-2.ensures.value ∙ c.in_ok-made.ensures.others n) c.pos-at.ensures.place (ap (λ n. c.in-Some.word.start + n) (search rules)))) c.in_err-exchange.ensures.steps)

pub returns : goal.returns
returns g c =
    let line = c.args.self.now in
    let made = c.as_str-2.result.now in
    let plan = exchange_plan line c.in-Some.word c.pos-at.result made (c.in-Some.word.start + c.len.result) in
    Done-as _ (edit_word_plan line c.args.action) (answering true plan) _ _ _ _ _ (Done-steps _ (answering true plan) _ _ _ _ _ c.in_ok-exchange.ensures.steps.taken refl c.in_ok-exchange.ensures.steps.cursor)
    (edit_word_plan-some line c.args.action c.in-Some.word c.range-text.result.now made c.pos-at.result (c.in-Some.word.start + c.len.result) c.in-Some.ensures.value
    (c.range-text.ensures.value ∙ ap (λ t. slice_range t c.in-Some.word.start c.in-Some.word.end) c.as_str.ensures)
    (λ a. c.as_str-2.ensures.value ∙ c.in_ok-made.ensures.ascii a) (λ n. c.as_str-2.ensures.value ∙ c.in_ok-made.ensures.others n) c.pos-at.ensures.place (ap (λ n. c.in-Some.word.start + n) (search rules)))
