use Rattle.rl_line.proofs.Common.{IsCharBoundary, IsTable, List, ap, length, remove_range, string_bytes, subst, sym, take, ℕ, ◌∙◌, ◌≡◌, ◌≤◌}
use Rattle.rl_line.proofs.Lines.GapLemmas.{closed}
use Rattle.rl_line.proofs.gapped.Gapped.close.Goals.{After-truncate}
use Rattle.rl_line.specs.Gapped.{Gapped}
use Rattle.rl_line.proofs.gapped.Gapped.close.Goals as goal

-- the bytes that are left are the text
text-is : (c : After-truncate) → c.truncate.new.self.items ≡ remove_range c.gapped.inside.bytes.items c.gapped.inside.gap c.gapped.inside.rest
text-is c =
    let inside = c.gapped.inside in
    let whole = c.gapped.view_is ∙ c.move_gap.ensures in
    let at : inside.gap ≡ c.len-len.result = ap (λ (g : Gapped). g.gap) whole in
    let size : length (remove_range inside.bytes.items inside.gap inside.rest) ≡ inside.gap = ap (λ (g : Gapped). length g.roomy.line.text) whole ∙ sym c.len-len.ensures.len ∙ sym at in
    c.truncate.ensures.items ∙ ap (λ n. take n inside.bytes.items) (sym at) ∙ closed inside.bytes.items inside.gap inside.rest c.gapped.invariant.order c.gapped.invariant.inside size

pub invariant_of-drop : goal.invariant_of-drop
invariant_of-drop c =
    let d = (goal.at.invariant_of-drop c).After-truncate in
    let same : string_bytes c.from_utf8_unchecked-text.result ≡ c.truncate.new.self.items = ap (λ v. v.items) c.from_utf8_unchecked-text.ensures.value in
    let around = c.gapped.invariant.around in
    record {
      table = λ yes. subst (IsTable _ _) (c.as_slice.ensures.value ∙ sym same) (c.whole_table-has_starts.ensures yes);
      at_boundary = subst (λ t. IsCharBoundary t c.gapped.inside.pos) (sym (same ∙ text-is d)) around.at_boundary;
      within = subst (λ (t : List ℕ). length t ≤ c.gapped.inside.limit) (sym (same ∙ text-is d)) around.within;
    }
