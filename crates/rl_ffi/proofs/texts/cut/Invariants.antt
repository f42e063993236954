use Rattle.std.proofs.Common.{◌≡◌, ◌+◌, ◌≤◌, length}
use Rattle.unicode_segmentation.specs.Iter.{graphemes_left}
use Rattle.rl_base.specs.Clusters.{bytes_in, clusters}
use Rattle.rl_base.specs.Screen.{filled, filled_after}
use Rattle.rl_ffi.specs.Texts.{measured}
use Rattle.rl_ffi.proofs.texts.cut.Given as goal

-- what is written with the clusters from here on is what all of them write
abbrev pub invariant-loop-cluster : goal.invariant-loop-cluster
invariant-loop-cluster l =
    record {
      few : l.count + length (graphemes_left l.cluster-iterator) ≤ length l.text;
      places : l.from + bytes_in (graphemes_left l.cluster-iterator) ≡ length l.text;
      written : filled_after l.count (measured l.mode l.from (graphemes_left l.cluster-iterator)) l.out
          ≡ filled (measured l.mode 0 (clusters l.text)) l.fn.out;
      count : l.count + length (measured l.mode l.from (graphemes_left l.cluster-iterator)) ≡ length (measured l.mode 0 (clusters l.text));
    }
