use Rattle.std.proofs.Common.{◌≡◌, ◌+◌, ◌≤◌, ℕ, length, slice_get}
use Rattle.unicode_segmentation.specs.Iter.{graphemes_left}
use Rattle.rl_base.specs.Clusters.{bytes_in}
use Rattle.rl_base.specs.Screen.{begins, cells, filled, filled_after, rows_from}
use Rattle.rl_base.proofs.screen.Screen.rows_from.Given as goal

-- the rows that begin from here on are those that follow the ones which have begun, and what is written with them is what all
-- rows write; no row comes without a cluster, and the place lies before what is left
abbrev pub invariant-loop-cluster : goal.invariant-loop-cluster
invariant-loop-cluster l =
    record {
      height : l.row + length (graphemes_left l.cluster-iterator) ≤ length l.text;
      column : l.column ≤ 65535;
      place : l.place + bytes_in (graphemes_left l.cluster-iterator) ≡ length l.text;
      room : l.begun ≤ length l.starts;
      size : length l.starts ≡ length l.fn.starts;
      starts : filled_after l.begun (begins (l.above + l.begun) (cells l.self l.place (l.row, l.column) (graphemes_left l.cluster-iterator))) l.starts
          ≡ filled (rows_from l.self l.text l.from) l.fn.starts;
      count : l.begun + length (begins (l.above + l.begun) (cells l.self l.place (l.row, l.column) (graphemes_left l.cluster-iterator)))
          ≡ length (rows_from l.self l.text l.from);
      get : (j : ℕ) → slice_get (begins (l.above + l.begun) (cells l.self l.place (l.row, l.column) (graphemes_left l.cluster-iterator))) j
          ≡ slice_get (rows_from l.self l.text l.from) (l.begun + j);
    }
