use Rattle.rl_session.proofs.Scripts.SpellingLemmas.{some_text}
use Rattle.rl_session.proofs.spelling.unescape.Goals as goal

pub returns-then-is_well_formed-clause-err : goal.returns-then-is_well_formed-clause-err
returns-then-is_well_formed-clause-err c =
    let spelled = c.if-is_well_formed.ensures in
    (spelled.0, spelled.1, some_text c.args.escaped.now spelled.0 spelled.1 c.in-Err.ensures.err)
