use Rattle.rl_line.proofs.Common.{IsUtf8, IsUtf8-drop, ap, drop, remove_range, subst, sym, ◌∙◌, ◌≡◌}
use Rattle.rl_line.proofs.gapped.Gapped.text_from.Goals.{After-beside-bytes}
use Rattle.rl_line.specs.Gapped.{Gapped}
use Rattle.rl_line.proofs.gapped.Gapped.text_from.Goals as goal

is : (c : After-beside-bytes) → c.beside-bytes.result.now ≡ drop c.args.at c.args.self.now.roomy.line.text
is c =
    c.beside-bytes.ensures
    ∙ ap (λ l. drop c.args.at (remove_range l c.self.inside.gap c.self.inside.rest)) c.as_slice.ensures.value
    ∙ ap (λ (g : Gapped). drop c.args.at g.roomy.line.text) c.self.view_is

pub from_utf8_unchecked-requires : goal.from_utf8_unchecked-requires
from_utf8_unchecked-requires c =
    let text = c.args.self.now.roomy.line.text in
    let utf8 = subst IsUtf8 (ap (λ (g : Gapped). g.roomy.line.text) c.self.view_is) c.self.invariant.around.utf8 in
    subst IsUtf8 (sym (is (goal.at.from_utf8_unchecked-requires c).After-beside-bytes)) (IsUtf8-drop text c.args.at utf8 c.requires.place)

pub returns : goal.returns
returns c = c.from_utf8_unchecked.ensures ∙ is (goal.at.returns c).After-beside-bytes
