use Rattle.std.proofs.Common.{◌≡◌, ◌+◌, ◌≤◌, length}
use Rattle.unicode_segmentation.specs.Iter.{graphemes_left}
use Rattle.rl_base.specs.Clusters.{bytes_in}
use Rattle.rl_base.specs.Screen.{cell, cells, last_within, place_at}
use Rattle.rl_base.proofs.Clusters.RowLemmas.{end_cell}
use Rattle.rl_base.proofs.screen.Screen.seek.Given as goal

-- choosing on among the places from here chooses what choosing among all does; no row comes without a cluster, the place lies
-- before what is left, and that ends at the cell of the text's end
abbrev pub invariant-loop-cluster : goal.invariant-loop-cluster
invariant-loop-cluster l =
    record {
      height : l.row + length (graphemes_left l.cluster-iterator) ≤ length l.text;
      column : l.column ≤ 65535;
      place : l.place + bytes_in (graphemes_left l.cluster-iterator) ≡ length l.text;
      found : l.found ≤ l.place;
      chosen : last_within l.to l.found (cells l.self l.place (l.row, l.column) (graphemes_left l.cluster-iterator)) ≡ place_at l.self l.text l.to;
      end : end_cell l.self (l.row, l.column) (graphemes_left l.cluster-iterator) ≡ cell l.self l.text (length l.text);
    }
