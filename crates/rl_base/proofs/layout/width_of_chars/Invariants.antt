use Rattle.rl_base.proofs.Common.{◌≡◌, ◌≤◌, ◌+◌, min, sum_by, IsUtf8, chars, chars_rest, WcWidth, char_columns, width}
use Rattle.rl_base.proofs.layout.width_of_chars.Given as goal

-- the columns so far and those of what is left
abbrev pub invariant-loop-c : goal.invariant-loop-c
invariant-loop-c l =
    record {
      text : IsUtf8 (chars_rest l.c-iterator);
      small : l.total ≤ 65535;
      columns : min (l.total + sum_by char_columns (chars (chars_rest l.c-iterator))) 65535 ≡ width WcWidth l.text;
    }
