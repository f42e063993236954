use Rattle.rl_session.proofs.Scripts.WordLemmas.{ins-no_char}
use Rattle.rl_session.proofs.grammar.insertion.Goals as goal

pub returns-in_err-character : goal.returns-in_err-character
returns-in_err-character c =
    rw c.from_residual-in_err-character.ensures (ins-no_char c.args.given.now c.in_ok-n.escaped.now c.in_ok-n.n c.in_ok-n.ensures.cases c.in_err-character.ensures)
