use Rattle.rl_line.proofs.Common.{IsUtf8, IsUtf8-string_bytes, List, ap, replace_range, string_bytes, subst, sym, ℕ, ◌∙◌, ◌≡◌}
use Rattle.rl_base.proofs.Texts.TextLemmas.{IsUtf8-replaced}
use Rattle.rl_line.proofs.swap.swap_within.Goals as goal

pub from_utf8_unchecked-requires : goal.from_utf8_unchecked-requires
from_utf8_unchecked-requires c =
    let old : List ℕ = string_bytes c.args.text.now in
    let swapped : List ℕ → List ℕ → List ℕ = λ l. replace_range l c.args.from c.args.to in
    let was : c.into_bytes-bytes.result.items ≡ old = ap (λ v. v.items) c.into_bytes-bytes.ensures.value ∙ ap string_bytes c.replace.ensures.value in
    let now : c.swap_bytes.new.text.items ≡ swapped old c.args.part.now =
    c.swap_bytes.ensures.items ∙ ap (λ (l : List ℕ). swapped l c.as_bytes.result.now) was ∙ ap (swapped old) c.as_bytes.ensures.value in
    subst IsUtf8 (sym now) (IsUtf8-replaced old c.args.from c.args.to c.args.part.now (IsUtf8-string_bytes c.args.text.now) c.utf8.part c.requires.range.1 c.requires.range.2)
