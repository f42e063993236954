-- No cluster of a text is empty, each stands before the text's end, and a text of one byte is one.
use Rattle.rl_base.proofs.Common.{◌≡◌, ℕ, ◌+◌, ◌<◌, ◌≤◌, true, List, [], ◌∷◌, length, arith, length-append, All-nil, All-cons, All-weaker, All, concat, IsUtf8, is_grapheme_break, clusters, bytes_in, PlacedCluster, placed_clusters}
use Rattle.unicode_segmentation.specs.Segments.{with_offsets}
use Rattle.unicode_segmentation.proofs.SegmentsLemmas.{AllPieces, segments_nonempty}
use Rattle.rl_base.proofs.Clusters.ClusterLemmas.{bytes_in-clusters}

All-pieces : (ps : List (List ℕ)) → AllPieces (λ p. 0 < length p) ps → All (λ (p : List ℕ). 0 < length p) ps
All-pieces [] some = All-nil (λ (p : List ℕ). 0 < length p)
All-pieces (p ∷ ps) some = All-cons (λ (p : List ℕ). 0 < length p) p ps some.0 (All-pieces ps some.1)

pub clusters-some : (text : List ℕ) → All (λ (p : List ℕ). 0 < length p) (clusters text)
clusters-some text = All-pieces (clusters text) (segments_nonempty (is_grapheme_break true) text)

placed-below : (m : ℕ) (ps : List (List ℕ)) → AllPieces (λ p. 0 < length p) ps → All (λ (x : PlacedCluster). x.0 < m + bytes_in ps) (with_offsets m ps)
unfolding with_offsets
placed-below m [] some = All-nil (λ (x : PlacedCluster). x.0 < m + bytes_in [])
placed-below m (p ∷ ps) some =
    let wide : bytes_in (p ∷ ps) ≡ length p + bytes_in ps = length-append p (concat ps) in
    All-cons (λ (x : PlacedCluster). x.0 < m + bytes_in (p ∷ ps)) (m, p) (with_offsets (m + length p) ps) (omega (arith, wide, some.0))
    (All-weaker (λ (x : PlacedCluster). x.0 < m + length p + bytes_in ps) (λ (x : PlacedCluster). x.0 < m + bytes_in (p ∷ ps)) (λ x h. omega (arith, wide, h)) _
    (placed-below (m + length p) ps some.1))

pub places-before_end : (text : List ℕ) → IsUtf8 text → All (λ (x : PlacedCluster). x.0 < length text) (placed_clusters text)
places-before_end text u =
    All-weaker (λ (x : PlacedCluster). x.0 < 0 + bytes_in (clusters text)) (λ (x : PlacedCluster). x.0 < length text) (λ x h. omega (arith, bytes_in-clusters text u, h)) _
    (placed-below 0 (clusters text) (segments_nonempty (is_grapheme_break true) text))

-- there are no more pieces than bytes in them, where none is empty
count-within : (ps : List (List ℕ)) → AllPieces (λ p. 0 < length p) ps → length ps ≤ bytes_in ps
count-within [] some = omega arith
count-within (p ∷ ps) some = omega (arith, length-append p (concat ps), some.0, count-within ps some.1)

-- so a text of one byte is one cluster
pub clusters-lone : (text : List ℕ) → IsUtf8 text → length text ≡ 1 → length (clusters text) ≡ 1
clusters-lone text u one = from (clusters text) (bytes_in-clusters text u) (count-within (clusters text) (segments_nonempty (is_grapheme_break true) text))
  where
    from : (ps : List (List ℕ)) → bytes_in ps ≡ length text → length ps ≤ bytes_in ps → length ps ≡ 1
    from [] e few = absurd (omega (arith, e, one))
    from (p ∷ ps) e few = omega (arith, e, one, few)
