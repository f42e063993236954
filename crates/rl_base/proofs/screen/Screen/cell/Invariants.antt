use Rattle.std.proofs.Common.{◌≡◌, ◌+◌, ◌≤◌, length}
use Rattle.unicode_segmentation.specs.Iter.{graphemes_left}
use Rattle.rl_base.specs.Clusters.{clusters}
use Rattle.rl_base.specs.Screen.{laid}
use Rattle.rl_base.proofs.screen.Screen.cell.Given as goal

-- laying out what is left from here leads where laying out all does, and no row comes without a cluster
abbrev pub invariant-loop-cluster : goal.invariant-loop-cluster
invariant-loop-cluster l =
    record {
      rows : l.row + length (graphemes_left l.cluster-iterator) ≤ length l.text;
      column : l.column ≤ 65535;
      laid : laid l.self l.left (l.row, l.column) (graphemes_left l.cluster-iterator) ≡ laid l.self l.place (0, l.self.prompt) (clusters l.text);
    }
