use Rattle.rl_session.proofs.Common.{◌<◌, arith, rules}
use Rattle.rl_session.proofs.Sessions.TypingLemmas.{types_byte}
use Rattle.rl_session.proofs.session.Session.type_bytes.Goals as goal

pub returns-in-len1 : goal.returns-in-len1
returns-in-len1 c =
    let low : c.from.result < 128 = search rules in
    types_byte c.args.bytes.now c.from.result _ _ _ (omega (arith, c.in-len1.len_at_least)) (omega (arith, c.in-len1.len_below)) (search rules) low c.type_char.ensures
