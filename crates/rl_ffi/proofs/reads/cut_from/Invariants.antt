use Rattle.std.proofs.Common.{◌≡◌, ◌+◌, ◌≤◌, ℕ, drop, length, slice_get}
use Rattle.unicode_segmentation.specs.Iter.{graphemes_left}
use Rattle.rl_base.specs.Clusters.{bytes_in, clusters}
use Rattle.rl_base.specs.Screen.{filled, filled_after}
use Rattle.rl_ffi.specs.Texts.{measured}
use Rattle.rl_ffi.proofs.reads.cut_from.Given as goal

-- the clusters from here on are those that follow the ones which were written, and what is written with them is what all write
abbrev pub invariant-loop-cluster : goal.invariant-loop-cluster
invariant-loop-cluster l =
    let all = measured l.mode l.fn.from (clusters (drop l.fn.from l.text)) in
    record {
      places : l.from + bytes_in (graphemes_left l.cluster-iterator) ≡ length l.text;
      room : l.count ≤ length l.out;
      size : length l.out ≡ length l.fn.out;
      written : filled_after l.count (measured l.mode l.from (graphemes_left l.cluster-iterator)) l.out ≡ filled all l.fn.out;
      count : l.count + length (measured l.mode l.from (graphemes_left l.cluster-iterator)) ≡ length all;
      get : (j : ℕ) → slice_get (measured l.mode l.from (graphemes_left l.cluster-iterator)) j ≡ slice_get all (l.count + j);
    }
