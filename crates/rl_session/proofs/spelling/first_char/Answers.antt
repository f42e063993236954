use Rattle.rl_session.proofs.Common.{arith, sym, ◌∙◌, nil_from_length, strip_prefix_char}
use Rattle.rl_session.proofs.Scripts.SpellingLemmas.{Begins-char, no_char, escaped_char, not_slash, IsScalar-first}
use Rattle.rl_session.proofs.spelling.first_char.Goals as goal

pub returns-in-Some : goal.returns-in-Some
returns-in-Some c =
    let strip = strip_prefix_char 92 c.args.escaped.now c.strip_prefix.result c.strip_prefix.ensures.cases (omega arith) in
    escaped_char c.args.escaped.now c.in-Some.after.now c.escape.result (rw c.in-Some.is at strip) c.escape.ensures.cases

pub returns-in_err-next-in-None : goal.returns-in_err-next-in-None
returns-in_err-next-in-None c =
    rw c.from_residual.ensures
    (no_char c.args.escaped.now (sym c.chars-rest.ensures.rest ∙ nil_from_length c.chars-rest.result.rest.now c.in_err-next-in-None.ensures.steps.0.0))

pub returns-in_ok-next-in-None : goal.returns-in_ok-next-in-None
returns-in_ok-next-in-None c =
    let strip = strip_prefix_char 92 c.args.escaped.now c.strip_prefix.result c.strip_prefix.ensures.cases (omega arith) in
    let bytes = c.args.escaped.now in
    let char = c.in_ok-next-in-None.field-0 in
    let rest = c.next.new.self.rest.now in
    let is = sym c.chars-rest.ensures.rest ∙ c.in_ok-next-in-None.ensures.steps.0 in
    rw c.as_str.ensures
    (Begins-char bytes rest char (IsScalar-first bytes rest char c.utf8.escaped is) (not_slash bytes rest char is (rw c.in-None.is at strip)) is)
