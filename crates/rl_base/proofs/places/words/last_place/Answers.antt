use Rattle.rl_base.proofs.Common.{map, drop, ap, None, sym, ◌∙◌, last_or, grapheme_indices_left, PlacedCluster}
use Rattle.rl_base.proofs.Clusters.ClusterLemmas.{shown_past_first}
use Rattle.rl_base.proofs.Clusters.WordLemmas.{last_or-push, IsCharBoundary-last_place}
use Rattle.rl_base.proofs.places.words.last_place.Goals as goal

pub returns : goal.returns
returns c =
    let left = ap (drop 1) (sym c.grapheme_indices-clusters.ensures.left) ∙ sym (shown_past_first _ grapheme_indices_left _ _ _ c.next.ensures.steps) ∙ c.in_ok-place.ensures.steps in
    let value = ap (λ l. last_or None (map (λ piece. piece.0) l)) left
    ∙ last_or-push {X = PlacedCluster} (λ piece. piece.0) None (grapheme_indices_left c.next_back.new.self)
    (c.in_ok-place.place, c.in_ok-place.field-0-1.now) in
    record { value = sym value; boundary = rw value at (IsCharBoundary-last_place c.args.text.now c.utf8.text) }
