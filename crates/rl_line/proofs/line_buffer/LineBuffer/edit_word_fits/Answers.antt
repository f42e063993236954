use Rattle.rl_line.proofs.Common.{ap, arith, le-leb, leb, length, refl, slice_range, sym, ◌+◌, ◌∙◌}
use Rattle.rl_line.proofs.Plans.LetterCaseLemmas.{edit_word_plan-nothing, edit_word_plan-some}
use Rattle.rl_line.proofs.Plans.LimitLemmas.{longest-exchange}
use Rattle.rl_line.specs.Plan.{longest_by}
use Rattle.rl_line.proofs.line_buffer.LineBuffer.edit_word_fits.Goals as goal

pub returns-in_default-clause-ok : goal.returns-in_default-clause-ok
returns-in_default-clause-ok c =
    let line = c.args.self.now in
    let none = edit_word_plan-nothing line c.args.action (sym c.in_default.is ∙ c.word_ahead.ensures.value) in
    sym (le-leb _ line.limit (omega (arith, ap (longest_by line) none, c.limit-limit.ensures.within)))

pub returns-clause-ok : goal.returns-clause-ok
returns-clause-ok c =
    let line = c.args.self.now in
    let word = c.in-Some.word in
    let made = c.as_str-2.result.now in
    let stop = word.start + length made in
    let plan = edit_word_plan-some line c.args.action word c.range-text.result.now made line.cursor stop c.in-Some.ensures.value
    (c.range-text.ensures.value ∙ ap (λ t. slice_range t word.start word.end) c.as_str.ensures)
    (λ a. c.as_str-2.ensures.value ∙ c.in_ok-made.ensures.ascii a) (λ n. c.as_str-2.ensures.value ∙ c.in_ok-made.ensures.others n) refl refl in
    c.replace_fits.ensures ∙ ap (λ n. leb n line.limit) (sym (ap (longest_by line) plan ∙ longest-exchange line word line.cursor stop made))
