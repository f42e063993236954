use Rattle.rl_base.proofs.Common.{◌≡◌, ℕ, ◌<◌, List, ◌∷◌, class_of, grapheme_indices_left, stops, nth}
use Rattle.rl_base.proofs.places.words.nth_stop.Given as goal

-- the stop that is left among the clusters that are left is the one that was asked for
abbrev pub invariant-loop-start : goal.invariant-loop-start
invariant-loop-start l =
    record {
      cluster : List ℕ;
      class : l.last ≡ class_of l.word cluster;
      some : 0 < l.left;
      found : nth l.left (stops l.at l.word ((l.place, cluster) ∷ grapheme_indices_left l.start-iterator)) ≡ nth l.n (stops l.at l.word (grapheme_indices_left l.fn.clusters));
    }
