use Rattle.rl_base.proofs.Common.{◌∙◌, rules}
use Rattle.rl_base.proofs.Texts.OccurrenceLemmas.{first_of_bytes}
use Rattle.rl_base.proofs.places.hits.find_ahead.Goals as goal

pub returns-in_err-start : goal.returns-in_err-start
returns-in_err-start c =
    let found = first_of_bytes c.args.text.now c.args.sought.now c.args.from c.utf8.text c.utf8.sought c.requires.some c.requires.from.0 _ _ c.first_occurrence.result (c.as_bytes.ensures.value ∙ c.range_from.ensures.value) c.as_bytes-2.ensures.value c.first_occurrence.ensures in
    search rules

pub returns : goal.returns
returns c =
    let found = first_of_bytes c.args.text.now c.args.sought.now c.args.from c.utf8.text c.utf8.sought c.requires.some c.requires.from.0 _ _ c.first_occurrence.result (c.as_bytes.ensures.value ∙ c.range_from.ensures.value) c.as_bytes-2.ensures.value c.first_occurrence.ensures in
    search rules
