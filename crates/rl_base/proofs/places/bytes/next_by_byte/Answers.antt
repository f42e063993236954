use Rattle.rl_base.proofs.Common.{◌+◌, arith, refl, rules}
use Rattle.rl_base.proofs.Texts.OccurrenceLemmas.{next_place, rest_is}
use Rattle.rl_base.proofs.places.bytes.next_by_byte.Goals as goal

pub returns-in_err-memchr : goal.returns-in_err-memchr
returns-in_err-memchr c =
    let next = next_place c.args.hay.now c.args.needle.now c.args.index c.args.start _ _ c.memchr.result (rest_is c.args.hay.now (c.args.start + c.args.index)) refl c.requires.index (omega arith) c.memchr.ensures in
    search rules

pub returns : goal.returns
returns c =
    let next = next_place c.args.hay.now c.args.needle.now c.args.index c.args.start _ _ c.memchr.result (rest_is c.args.hay.now (c.args.start + c.args.index)) refl c.requires.index (omega arith) c.memchr.ensures in
    search rules
