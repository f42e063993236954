use Rattle.rl_line.proofs.Common.{length, take, ◌≡◌}
use Rattle.std.specs.List.{flat_map}
use Rattle.rl_line.proofs.blocks.total.Given as goal

abbrev pub invariant-loop-part : goal.invariant-loop-part
invariant-loop-part g l = l.total ≡ length (flat_map g.P.Part.text (take l.part-index l.parts))
