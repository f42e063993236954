use Rattle.rl_session.proofs.Scripts.MovementLemmas.{no_kind}
use Rattle.rl_session.proofs.grammar.count_and_search.Goals as goal

pub returns-in_err-named_search : goal.returns-in_err-named_search
returns-in_err-named_search c =
    let on = rw c.in_ok-escaped.was at c.first_word.ensures.rest in
    rw c.from_residual-in_err-named_search.ensures
    (no_kind c.in_ok-n.ensures.cases on c.in_ok-c.ensures (λ cs s. c.in_err-named_search.ensures cs (rw c.first_word.ensures.word s)))
