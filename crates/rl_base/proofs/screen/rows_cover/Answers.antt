use Rattle.std.proofs.Common.{arith, ◌≡◌, ◌+◌, ◌-◌, slice_get, sym, ap, ◌∙◌}
use Rattle.rl_base.specs.Clusters.{clusters}
use Rattle.rl_base.specs.Screen.{rows}
use Rattle.rl_base.proofs.Clusters.PieceLemmas.{clusters-some}
use Rattle.rl_base.proofs.Clusters.RowLemmas.{in-row}
use Rattle.rl_base.proofs.screen.rows_cover.Goals as goal

pub returns : goal.returns
returns c screen text k place at e =
    let r = in-row screen 0 0 (0, screen.prompt) (clusters text) k (place, at) (clusters-some text) (omega arith) e in
    let starts = r.2.0 (omega arith) in
    let here : at.0 ≡ at.0 - 0 = omega arith in
    let next : at.0 + 1 ≡ at.0 + 1 - 0 = omega arith in
    record {
      start = starts.0;
      is_start = ap (slice_get (rows screen text)) here ∙ starts.1;
      from = starts.2;
      next = λ t h. r.2.1 t (sym (ap (slice_get (rows screen text)) next) ∙ h);
    }
