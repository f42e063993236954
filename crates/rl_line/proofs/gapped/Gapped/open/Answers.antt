use Rattle.rl_line.proofs.Common.{IsAround, IsTableAround, IsUtf8-string_bytes, List, ap, arith, length, length-replicate, replicate, string_bytes, subst, sym, take, true, ℕ, ◌++◌, ◌+◌, ◌-◌, ◌∙◌, ◌≡◌}
use Rattle.rl_line.proofs.Lines.GapLemmas.{opened}
use Rattle.rl_line.proofs.gapped.Gapped.open.Goals as goal

pub invariant_of-result : goal.invariant_of-result
invariant_of-result c =
    let inside = c.text.inside in
    let text = string_bytes inside.text in
    let len = c.len-len.result in
    let n = len + c.args.room in
    let more : List ℕ = replicate (n - c.into_bytes-bytes.result.len) 0 in
    let was : c.into_bytes-bytes.result.items ≡ text = ap (λ v. v.items) c.into_bytes-bytes.ensures.value in
    let count : c.into_bytes-bytes.result.len ≡ len = ap (λ v. v.len) c.into_bytes-bytes.ensures.value ∙ sym c.len-len.ensures in
    let size : length text ≡ len = omega (arith, inside.text.bytes.ok.0, c.len-len.ensures) in
    let is : c.resize.new.self.items ≡ take n text ++ more = c.in-Ok.ensures.items ∙ ap (λ l. take n l ++ more) was in
    let all = opened text more _ len n is size (length-replicate (n - c.into_bytes-bytes.result.len) 0 ∙ ap (λ k. n - k) count) (omega arith) in
    let from = c.min-from.result in
    let to = c.min-to.result in
    let cut = c.cut_table-has_starts in
    let starts = cut.new.starts.places.items in
    let border = cut.new.starts.border in
    let table : cut.result ≡ true → IsTableAround starts border from (len - to) text =
    λ yes. subst (λ k. IsTableAround starts border from (k - to) text) size (subst (λ t. IsTableAround starts border from (length t - to) t) c.as_str.ensures.value (cut.ensures yes)) in
    let around : IsAround text starts border from (len - to) cut.result inside.pos inside.limit =
    record { utf8 = IsUtf8-string_bytes inside.text; table = table; at_boundary = c.text.invariant.at_boundary; within = c.text.invariant.within } in
    record {
      order = omega arith;
      inside = omega (arith, all.1);
      around = subst (λ t. IsAround t starts border from (len - to) cut.result inside.pos inside.limit) (sym all.0) around;
    }
