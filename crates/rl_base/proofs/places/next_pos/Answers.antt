use Rattle.rl_base.proofs.Common.{◌≡◌, ◌+◌, ◌-◌, ◌++◌, length, drop, take, Some, ap, sym, ◌∙◌, arith, length-append, concat-append, concat, graphemes_left, clusters, bytes_in}
use Rattle.rl_base.proofs.Clusters.ClusterLemmas.{shown_after_nth, pieces_past, concat-clusters, next_pos-some, IsCharBoundary-before_rest}
use Rattle.rl_base.proofs.places.next_pos.Goals as goal

-- what stands from the place on is the clusters that the iterator passed, and what it has left
split : (c : goal.After-as_str) → drop c.args.pos c.args.text.now ≡ concat (take c.args.n (clusters (drop c.args.pos c.args.text.now))) ++ c.as_str.result.now
split c =
    let cut = c.range_from.ensures.value in
    let pieces = clusters (drop c.args.pos c.args.text.now) in
    let went = shown_after_nth _ (λ piece. piece.now) graphemes_left (λ s t r h. h) _ _ _ _ c.nth.ensures.ran in
    let left = went ∙ ap (drop (c.from.result - 1 + 1)) (c.graphemes-clusters.ensures.left ∙ ap clusters cut) in
    let parts = pieces_past _ pieces c.args.n (c.from.result - 1) left (ap (λ n. n - 1) c.from.ensures) c.if-n-eq0.false in
    sym cut ∙ sym (concat-clusters c.range_from.result.now c.range_from.utf8) ∙ ap (λ text. concat (clusters text)) cut ∙ ap concat parts
    ∙ concat-append (take c.args.n pieces) _ ∙ ap (λ rest. concat (take c.args.n pieces) ++ rest) (sym c.as_str.ensures)

widths : (c : goal.After-as_str) → bytes_in (take c.args.n (clusters (drop c.args.pos c.args.text.now))) + length c.as_str.result.now ≡ length c.args.text.now - c.args.pos
widths c =
    let passed = take c.args.n (clusters (drop c.args.pos c.args.text.now)) in
    omega (arith, ap length (split c), length-append (concat passed) c.as_str.result.now, c.range_from.ensures.len, ap length c.range_from.ensures.value)

pub overflow_sub-result : goal.overflow_sub-result
overflow_sub-result c = omega (arith, widths c)

pub returns : goal.returns
returns c =
    let passed = concat (take c.args.n (clusters (drop c.args.pos c.args.text.now))) in record {
      value = ap Some (omega (arith, widths c)) ∙ sym (next_pos-some _ _ _ c.if-n-eq0.false c.if-pos-text.false);
      ahead = omega (arith, widths c);
      boundary = IsCharBoundary-before_rest c.args.text.now c.args.pos _ passed c.as_str.result.now c.requires.0 (split c) (omega (arith, widths c))
          c.as_str.utf8;
    }
