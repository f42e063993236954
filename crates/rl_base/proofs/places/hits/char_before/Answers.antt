use Rattle.rl_base.proofs.Common.{◌+◌, ◌∙◌, sym, subst, arith, rules, IsUtf8-encode, encode_utf8, IsUtf8}
use Rattle.rl_base.proofs.Clusters.SearchLemmas.{IsLastPlace, last_place-is}
use Rattle.rl_base.proofs.places.hits.char_before.Goals as goal

pub returns-in-Some : goal.returns-in-Some
returns-in-Some c =
    let step = c.in-Some.ensures.steps in
    let cut = c.range.ensures.value in
    let one : IsUtf8 (encode_utf8 c.in-Some.field-0-1) = IsUtf8-encode c.in-Some.field-0-1 (search rules) in
    let last : IsLastPlace c.args.text.now c.args.end (c.args.start + c.in-Some.place) =
    last_place-is c.args.text.now _ c.args.start c.args.end _ c.in-Some.field-0-1 c.utf8.text c.requires.start c.requires.end (omega (arith, c.requires.some))
    (subst IsUtf8 cut c.range.utf8) one (sym cut ∙ sym c.char_indices.ensures.rest ∙ step.1.0) (omega (arith, step.1.1, c.char_indices.ensures.offset)) in
    record { value = last.value; ahead = omega arith; boundary = last.boundary }
