use Rattle.rl_session.proofs.Common.{sym, ◌∙◌}
use Rattle.rl_session.proofs.Scripts.EscapeLemmas.{after_u, by_letter, no_letter}
use Rattle.rl_session.proofs.spelling.escape.Goals as goal

pub returns-in_err-letter_of-clause-cases : goal.returns-in_err-letter_of-clause-cases
returns-in_err-letter_of-clause-cases c =
    rw c.from_residual-in_err-letter_of.ensures
    (no_letter c.args.after.now c.next.new.self.rest.now c.in_ok-letter.letter (sym c.chars-rest.ensures.rest ∙ c.in_ok-letter.ensures.steps.0)
    c.if-letter-eq117.false (sym c.in_err-letter_of.ensures))

pub returns-then-letter-eq117-clause-cases : goal.returns-then-letter-eq117-clause-cases
returns-then-letter-eq117-clause-cases c =
    let is =
    after_u c.args.after.now c.next.new.self.rest.now c.in_ok-letter.letter (sym c.chars-rest.ensures.rest ∙ c.in_ok-letter.ensures.steps.0) c.if-letter-eq117.true in
    rw is (rw c.as_str.ensures at c.braced.ensures.cases)

pub returns-clause-cases : goal.returns-clause-cases
returns-clause-cases c =
    rw c.as_str-2.ensures
    (by_letter c.args.after.now c.next.new.self.rest.now c.in_ok-letter.letter c.in_ok-letter_of.field-0
    (sym c.chars-rest.ensures.rest ∙ c.in_ok-letter.ensures.steps.0) (sym c.in_ok-letter_of.ensures))
