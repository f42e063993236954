use Rattle.std.proofs.Common.{◌≡◌, ◌+◌, ◌≤◌, length}
use Rattle.unicode_segmentation.specs.Iter.{graphemes_left}
use Rattle.rl_base.specs.Clusters.{bytes_in}
use Rattle.rl_base.specs.Screen.{begins, cells, filled, filled_after, rows}
use Rattle.rl_base.proofs.screen.Screen.rows.Given as goal

-- what is written with the rows that begin from here on is what all rows write; no row comes without a cluster, and the place
-- lies before what is left
abbrev pub invariant-loop-cluster : goal.invariant-loop-cluster
invariant-loop-cluster l =
    record {
      height : l.row + length (graphemes_left l.cluster-iterator) ≤ length l.text;
      column : l.column ≤ 65535;
      few : l.begun + length (graphemes_left l.cluster-iterator) ≤ length l.text + 1;
      place : l.place + bytes_in (graphemes_left l.cluster-iterator) ≡ length l.text;
      starts : filled_after l.begun (begins l.begun (cells l.self l.place (l.row, l.column) (graphemes_left l.cluster-iterator))) l.starts
          ≡ filled (rows l.self l.text) l.fn.starts;
      count : l.begun + length (begins l.begun (cells l.self l.place (l.row, l.column) (graphemes_left l.cluster-iterator))) ≡ length (rows l.self l.text);
    }
