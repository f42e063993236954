use Rattle.rl_session.proofs.Common.{arith, rules, sym, ◌∙◌, ap, split_parts, word, rest}
use Rattle.rl_session.proofs.Scripts.SplitLemmas.{Lacks-by_index}
use Rattle.rl_session.proofs.Scripts.WordLemmas.{word-before, rest-after, word-whole, rest-none}
use Rattle.rl_session.proofs.spelling.first_word.Goals as goal

pub returns-in-Some : goal.returns-in-Some
returns-in-Some c =
    let parts = rw c.in-Some.is at (split_parts 32 c.args.given.now c.split_once.result c.split_once.ensures.cases (omega arith)) in
    let lacks = Lacks-by_index 32 c.in-Some.word.now parts.1 in
    record { word = sym (ap word parts.0 ∙ word-before _ c.in-Some.after.now lacks); rest = ap rest parts.0 ∙ rest-after _ c.in-Some.after.now lacks; utf8 = search rules; rest_utf8 = search rules }

pub returns-in-None : goal.returns-in-None
returns-in-None c =
    let parts = rw c.in-None.is at (split_parts 32 c.args.given.now c.split_once.result c.split_once.ensures.cases (omega arith)) in
    let lacks = Lacks-by_index 32 c.args.given.now parts in
    record { word = sym (word-whole c.args.given.now lacks); rest = rest-none c.args.given.now lacks; utf8 = search rules; rest_utf8 = search rules }
