use Rattle.std.proofs.Common.{arith, [], ◌∷◌, length-append, ap}
use Rattle.rl_base.specs.Clusters.{bytes_in}
use Rattle.unicode_segmentation.specs.Iter.{graphemes_left}
use Rattle.rl_base.proofs.Clusters.ClusterLemmas.{bytes_in-append, bytes_in-clusters}
use Rattle.rl_ffi.proofs.reads.measure_before.Goals as goal

-- the last cluster is no longer than what stands before the place
pub overflow_sub-found : goal.overflow_sub-found
overflow_sub-found c =
    let cluster = c.in-Some.cluster.now in
    omega (
      arith,
      c.range.ensures.len,
      bytes_in-clusters c.range.result.now c.range.utf8,
      ap bytes_in c.graphemes.ensures.left,
      ap bytes_in c.in-Some.ensures.steps,
      bytes_in-append (graphemes_left c.next_back.new.self) (cluster ∷ []),
      length-append cluster [],
    )
