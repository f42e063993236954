use Rattle.rl_session.proofs.Common.{arith, strip_prefix_char, split_parts}
use Rattle.rl_session.proofs.Scripts.SplitLemmas.{Lacks-by_index}
use Rattle.rl_session.proofs.Scripts.EscapeLemmas.{braces, no_brace, not_closed, not_named}
use Rattle.rl_session.proofs.spelling.braced.Goals as goal

pub returns-in_err-strip_prefix-clause-cases : goal.returns-in_err-strip_prefix-clause-cases
returns-in_err-strip_prefix-clause-cases c =
    let strip = strip_prefix_char 123 c.args.after.now c.strip_prefix.result c.strip_prefix.ensures.cases (omega arith) in
    rw c.from_residual.ensures (no_brace c.args.after.now (rw c.in_err-strip_prefix.was at strip))

pub returns-in_err-digits-clause-cases : goal.returns-in_err-digits-clause-cases
returns-in_err-digits-clause-cases c =
    let strip = strip_prefix_char 123 c.args.after.now c.strip_prefix.result c.strip_prefix.ensures.cases (omega arith) in
    let inner = c.in_ok-strip_prefix.field-0.now in
    let parts = split_parts 125 inner c.split_once.result c.split_once.ensures.cases (omega arith) in
    rw c.from_residual-in_err-digits.ensures
    (not_closed c.args.after.now inner (rw c.in_ok-strip_prefix.was at strip) (Lacks-by_index 125 inner (rw c.in_err-digits.was at parts)))

pub returns-in_err-named_char-clause-cases : goal.returns-in_err-named_char-clause-cases
returns-in_err-named_char-clause-cases c =
    let strip = strip_prefix_char 123 c.args.after.now c.strip_prefix.result c.strip_prefix.ensures.cases (omega arith) in
    let inner = c.in_ok-strip_prefix.field-0.now in
    let parts = rw c.in_ok-digits.was at (split_parts 125 inner c.split_once.result c.split_once.ensures.cases (omega arith)) in
    let digits = c.in_ok-digits.digits.now in
    rw c.from_residual-in_err-named_char.ensures
    (not_named c.args.after.now inner digits c.in_ok-digits.after.now (rw c.in_ok-strip_prefix.was at strip) parts.0 (Lacks-by_index 125 digits parts.1) c.in_err-named_char.ensures)

pub returns-clause-cases : goal.returns-clause-cases
returns-clause-cases c =
    let strip = strip_prefix_char 123 c.args.after.now c.strip_prefix.result c.strip_prefix.ensures.cases (omega arith) in
    let inner = c.in_ok-strip_prefix.field-0.now in
    let parts = rw c.in_ok-digits.was at (split_parts 125 inner c.split_once.result c.split_once.ensures.cases (omega arith)) in
    braces c.args.after.now inner c.in_ok-digits.digits.now c.in_ok-digits.after.now c.in_ok-named_char.field-0 (rw c.in_ok-strip_prefix.was at strip) parts.0 c.in_ok-named_char.ensures
