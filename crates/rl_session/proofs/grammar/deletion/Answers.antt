use Rattle.rl_session.proofs.Common.{◌≡◌, ℕ, true, List, Some, refl, Says, Do, range, del, back, prevword, nextword, to, killrange, deletes, Command}
use Rattle.rl_session.proofs.grammar.deletion.Goals as goal
use Rattle.rl_session.proofs.grammar.deletion.Goals.{In_default}

-- none of these words stands there
others : (c : In_default) (w given : List ℕ) (command : Command) → c.args.word.now ≡ w → deletes command ≡ true → Says w (Some given) (Do command) → ⊥
others c w given command e gone (range p s) = c.in_default.not-range e
others c w given command e gone (del p) = c.in_default.not-del e
others c w given command e gone (back p) = c.in_default.not-back e
others c w given command e gone (prevword p) = c.in_default.not-prevword e
others c w given command e gone (nextword p) = c.in_default.not-nextword e
others c w given command e gone (to p) = c.in_default.not-to e
others c w given command e gone (killrange p) = c.in_default.not-killrange e
others c w given command e gone _ = absurd cc

pub returns-in_default : goal.returns-in_default
returns-in_default c = λ command gone said. others c c.args.word.now c.args.given.now command refl gone said
