use Rattle.rl_session.proofs.Common.{sym}
use Rattle.rl_session.proofs.Scripts.NumberLemmas.{is_nil, not_nil}
use Rattle.rl_session.proofs.Scripts.SpellingLemmas.{char-whole, char-more}
use Rattle.rl_session.proofs.spelling.character.Goals as goal

pub returns-then-is_empty : goal.returns-then-is_empty
returns-then-is_empty c =
    char-whole c.args.escaped.now c.in_ok-c.after.now c.in_ok-c.c c.in_ok-c.ensures (is_nil c.in_ok-c.after.now (sym c.if-is_empty.ensures))

pub returns-else-is_empty : goal.returns-else-is_empty
returns-else-is_empty c =
    char-more c.args.escaped.now c.in_ok-c.after.now c.in_ok-c.c c.in_ok-c.ensures (not_nil c.in_ok-c.after.now (sym c.if-is_empty.ensures))
