use Rattle.rl_base.proofs.Common.{◌≡◌, ◌+◌, ◌-◌, ◌++◌, length, drop, take, reverse, refl, Some, ap, sym, subst, ◌∙◌, arith, length-append, take_at, length-take-le, concat-append, concat, IsUtf8, graphemes_left, clusters, bytes_in}
use Rattle.rl_base.proofs.Clusters.ClusterLemmas.{shown_after_nth, first_from_last, front_of_pieces, bytes_in-reverse, concat-clusters, prev_pos-some, slice_range-front}
use Rattle.rl_base.proofs.Texts.TextLemmas.{IsCharBoundary-in_front}
use Rattle.rl_base.proofs.places.prev_pos.Goals as goal

-- what stands before the place is what the iterator has left, and the clusters that it passed
split : (c : goal.After-as_str)
    → take c.args.pos c.args.text.now ≡ c.as_str.result.now ++ concat (reverse (take c.args.n (reverse (clusters (take c.args.pos c.args.text.now)))))
split c =
    let front = take c.args.pos c.args.text.now in
    let cut = c.range.ensures.value ∙ slice_range-front c.args.pos c.args.text.now in
    let left = graphemes_left c.nth_back.new.self in
    let went = shown_after_nth _ (λ piece. piece.now) (λ s. reverse (graphemes_left s)) (first_from_last _ graphemes_left)
    c.graphemes-clusters.result c.nth_back.new.self (c.from.result - 1) c.nth_back.result c.nth_back.ensures.ran in
    let pieces = clusters front in
    let all : graphemes_left c.graphemes-clusters.result ≡ pieces = c.graphemes-clusters.ensures.left ∙ ap clusters cut in
    let parts = front_of_pieces left pieces c.args.n (c.from.result - 1) (went ∙ ap (λ l. drop (c.from.result - 1 + 1) (reverse l)) all) (ap (λ n. n - 1) c.from.ensures) c.if-n-eq0.false in
    sym (concat-clusters front (subst IsUtf8 cut c.range.utf8)) ∙ ap concat parts ∙ concat-append left (reverse (take c.args.n (reverse pieces)))
    ∙ ap (λ l. l ++ concat (reverse (take c.args.n (reverse pieces)))) (sym c.as_str.ensures)

widths : (c : goal.After-as_str) → length c.as_str.result.now + bytes_in (take c.args.n (reverse (clusters (take c.args.pos c.args.text.now)))) ≡ c.args.pos
widths c =
    let passed = take c.args.n (reverse (clusters (take c.args.pos c.args.text.now))) in
    omega (
      arith,
      ap length (split c),
      length-append c.as_str.result.now (concat (reverse passed)),
      bytes_in-reverse passed,
      length-take-le c.args.pos c.args.text.now c.requires.0,
    )

pub returns : goal.returns
returns c = record {
  value = ap Some (omega (arith, widths c)) ∙ sym (prev_pos-some _ _ _ c.if-n-eq0.false c.if-pos-eq0.false);
  before = omega (arith, widths c);
  boundary = IsCharBoundary-in_front c.args.text.now c.args.pos _ c.utf8.text c.requires.0 (omega (arith, widths c))
      (subst IsUtf8 (sym (ap (take (length c.as_str.result.now)) (split c) ∙ take_at c.as_str.result.now _ _ refl)) c.as_str.utf8);
}
