use Rattle.rl_base.proofs.Common.{rules, ◌≡◌, [], ◌∷◌, ap, ◌∙◌, string_bytes, repeat, insert_slice}
use Rattle.rl_base.proofs.Texts.GatheredLemmas.{blanker}
use Rattle.rl_base.proofs.gathered.find_blanks.Goals as goal

pub returns : goal.returns
returns c =
    let old = string_bytes c.args.buf.now in
    let m = c.max-more.result in
    let now = string_bytes c.insert_str.new.self in
    let is : now ≡ insert_slice old 0 (repeat m (32 ∷ [])) = c.in_ok-insert_str.ensures.bytes ∙ ap (insert_slice old 0) (c.as_str.ensures.value ∙ c.in_ok-row.ensures.bytes) in
    let made = blanker old now c.args.blanks m c.requires is in
    record { blanks = made.blanks; room = search rules; text = made.text_is; err = tt }
