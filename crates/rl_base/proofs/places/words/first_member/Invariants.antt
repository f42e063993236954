use Rattle.rl_base.proofs.Common.{◌≡◌, grapheme_indices_left, first_member, placed_clusters}
use Rattle.rl_base.proofs.places.words.first_member.Given as goal

-- the first among the clusters that are left is the first of all
abbrev pub invariant-loop-place : goal.invariant-loop-place
invariant-loop-place l = first_member (grapheme_indices_left l.place-iterator) ≡ first_member (placed_clusters l.text)
