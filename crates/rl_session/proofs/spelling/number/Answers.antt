use Rattle.rl_session.proofs.Common.{arith, sym, ◌∙◌, at_drop_all, are_digits, value_from}
use Rattle.rl_session.proofs.Scripts.NumberLemmas.{number-bad, number-great, number-whole, some_length}
use Rattle.rl_session.proofs.spelling.number.Goals as goal

pub returns-then-not-is_ascii_digit-clause-value : goal.returns-then-not-is_ascii_digit-clause-value
returns-then-not-is_ascii_digit-clause-value c =
    rw (sym c.as_bytes-b-items.ensures.value)
    (number-bad _ c.loop-b.b-index c.as_bytes-b-items.result.now c.loop-b-test.true c.loop-b.invariant.digits (sym c.is_ascii_digit.ensures.value ∙ c.if-not-is_ascii_digit.true))

pub returns-in_err-checked_mul-clause-value : goal.returns-in_err-checked_mul-clause-value
returns-in_err-checked_mul-clause-value c =
    c.from_residual.ensures ∙ rw (sym c.as_bytes-b-items.ensures.value)
    (number-great _ c.loop-b.b-index c.loop-b.value c.as_bytes-b-items.result.now c.loop-b-test.true c.loop-b.invariant.value (omega (arith, c.in_err-checked_mul.ensures)))

pub returns-in_err-value-clause-value : goal.returns-in_err-value-clause-value
returns-in_err-value-clause-value c =
    c.from_residual-in_err-value.ensures ∙ rw (sym c.as_bytes-b-items.ensures.value)
    (number-great _ c.loop-b.b-index c.loop-b.value c.as_bytes-b-items.result.now c.loop-b-test.true c.loop-b.invariant.value
    (omega (arith, c.in_ok-checked_mul.ensures, c.in_err-value.ensures, c.from-digit.ensures)))

pub returns-then-value-greatest-clause-value : goal.returns-then-value-greatest-clause-value
returns-then-value-greatest-clause-value c =
    rw (sym c.as_bytes-b-items.ensures.value)
    (number-great _ c.loop-b.b-index c.loop-b.value c.as_bytes-b-items.result.now c.loop-b-test.true c.loop-b.invariant.value
    (omega (arith, c.in_ok-checked_mul.ensures, c.in_ok-value.ensures, c.from-digit.ensures)))

pub returns-clause-value : goal.returns-clause-value
returns-clause-value c =
    let bytes = c.as_bytes-b-items.result.now in
    rw (sym c.as_bytes-b-items.ensures.value)
    (number-whole _ c.loop-b.value bytes (rw c.as_bytes-b-items.ensures.value (some_length c.args.digits.now (sym c.is_empty.ensures ∙ c.if-is_empty.false)))
    (sym c.loop-b.invariant.digits ∙ at_drop_all are_digits bytes c.loop-b.b-index c.loop-b-test.false)
    (sym (at_drop_all (value_from c.loop-b.value) bytes c.loop-b.b-index c.loop-b-test.false) ∙ c.loop-b.invariant.value) c.loop-b.invariant.bound)
