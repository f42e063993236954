use Rattle.rl_base.proofs.Common.{rules}
use Rattle.rl_base.proofs.Texts.OccurrenceLemmas.{finds_after, rest_is}
use Rattle.rl_base.proofs.places.bytes.first_from.Goals as goal

pub returns-in_err-find : goal.returns-in_err-find
returns-in_err-find c =
    let found = finds_after c.args.hay.now c.args.needle.now c.args.start _ c.find.result (rest_is c.args.hay.now c.args.start) c.requires c.find.ensures in
    search rules

pub returns : goal.returns
returns c =
    let found = finds_after c.args.hay.now c.args.needle.now c.args.start _ c.find.result (rest_is c.args.hay.now c.args.start) c.requires c.find.ensures in
    search rules
