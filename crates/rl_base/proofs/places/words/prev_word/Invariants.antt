use Rattle.rl_base.proofs.Common.{◌≡◌, ℕ, ◌<◌, List, ◌++◌, ◌∷◌, [], take, rev_source, class_of, grapheme_indices_left, placed_clusters}
use Rattle.rl_base.proofs.Clusters.WordLemmas.{start_before}
use Rattle.rl_base.proofs.places.words.prev_word.Given as goal

-- the start that is wanted among the clusters that are left is the one that was asked for
abbrev pub invariant-loop-start : goal.invariant-loop-start
invariant-loop-start l =
    record {
      cluster : List ℕ;
      class : l.next ≡ class_of l.fn.word cluster;
      some : 0 < l.wanted;
      found : start_before l.fn.word l.wanted (grapheme_indices_left (rev_source l.start-iterator) ++ (l.at, cluster) ∷ [])
          ≡ start_before l.fn.word l.fn.n (placed_clusters (take l.pos l.text));
    }
