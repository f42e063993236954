use Rattle.rl_base.proofs.Common.{arith, IsUtf8-past_char}
use Rattle.rl_base.proofs.Clusters.WidthLemmas.{columns-char}
use Rattle.rl_base.proofs.layout.width_of_chars.Goals as goal

pub loop-c-preserved : goal.loop-c-preserved
loop-c-preserved c =
    let i = c.loop-c.invariant in
    let step = c.in-Some.ensures.steps in
    record {
      text = IsUtf8-past_char _ _ c.in-Some.c i.text step.0;
      small = omega (arith, c.saturating_add-total.ensures);
      columns = omega (arith, columns-char _ _ c.in-Some.c c.loop-c.total i.text step.0, c.saturating_add-total.ensures, c.char_columns.ensures.value, i.columns);
    }
