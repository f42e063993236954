use Rattle.rl_base.proofs.Common.{◌≡◌, ◌+◌, min, sum_by, false, length, slice_split, chars, str_width, NoZwj, is_joiner, width}
use denote.Text.{Utf8}
use denote.Shadow.{shadow}
use Rattle.rl_base.proofs.layout.width_of_parts.Given as goal

-- the columns so far and those of what is left
abbrev pub invariant-loop-part : goal.invariant-loop-part
invariant-loop-part l =
    shadow (Utf8 l.rest) × (min (l.total + sum_by (str_width false) (slice_split is_joiner (chars l.rest))) 65535 ≡ width NoZwj l.text)

abbrev pub decreases-loop-part : goal.decreases-loop-part
decreases-loop-part l = length l.rest
