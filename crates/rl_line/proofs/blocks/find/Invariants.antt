use Rattle.rl_line.proofs.Common.{length, take, ◌+◌, ◌-◌, ◌≡◌, ◌≤◌}
use Rattle.std.specs.List.{flat_map}
use Rattle.rl_line.proofs.blocks.find.Given as goal

-- the parts before are gone over
abbrev pub invariant-loop-there : goal.invariant-loop-there
invariant-loop-there g l = record {
  within : l.index ≤ length l.parts;
  place : l.at ≡ length (flat_map g.P.Part.text (take l.index l.parts)) + l.there;
}

abbrev pub decreases-loop-there : goal.decreases-loop-there
decreases-loop-there g l = length l.parts - l.index
