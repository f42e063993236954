use Rattle.rl_session.proofs.Common.{err_from_is_err_and, replaced}
use Rattle.rl_session.proofs.grammar.replacement.Goals as goal

pub returns-in_err-end-clause-err : goal.returns-in_err-end-clause-err
returns-in_err-end-clause-err c =
    let p = err_from_is_err_and c.from_residual.result c.from_residual.ensures.1 in
    let text = c.in_err-end.ensures.err in
    rw p.1 (text.1, replaced record { after = c.in-Some.found.1.now; starts = c.in-Some.ensures.cases; ends = text.2 }, text.3)
