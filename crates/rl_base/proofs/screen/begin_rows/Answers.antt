use Rattle.std.proofs.Common.{rules, arith, ◌≡◌, ◌+◌, ◌-◌, ◌++◌, ℕ, List, replicate, ap, ◌∙◌}
use Rattle.rl_base.specs.Screen.{filled_after}
use Rattle.rl_base.proofs.Clusters.RowLemmas.{filled-one, filled-past}
use Rattle.rl_base.proofs.screen.begin_rows.Goals as goal
use Rattle.rl_base.proofs.screen.begin_rows.Goals.{then-begun-starts, else-begun-starts}

pub loop-begun-preserved : goal.loop-begun-preserved
loop-begun-preserved c =
    let begun = c.loop-begun.begun in
    let end = c.args.begun + c.args.more in
    let left : (rest : List ℕ) → List ℕ = λ rest. replicate (end - (begun + 1)) c.args.place ++ rest in
    let one : (rest : List ℕ) → filled_after (begun + 1) (left rest) c.if-begun-starts.starts
    ≡ filled_after begun (replicate (end - begun) c.args.place ++ rest) c.loop-begun.starts =
    λ rest. elim c.if-begun-starts.branch [
      | then-begun-starts w ↦ ap (filled_after (begun + 1) (left rest)) w.starts-is
          ∙ filled-one end begun c.args.place rest c.loop-begun.starts (omega (arith, c.loop-begun-test.true)) (omega (arith, w.if-begun-starts.true))
      | else-begun-starts w ↦ ap (filled_after (begun + 1) (left rest)) w.starts-is
          ∙ filled-past end begun c.args.place rest c.loop-begun.starts (omega (arith, c.loop-begun-test.true)) (omega (arith, w.if-begun-starts.false))
    ] in
    record {
      starts = λ rest. one rest ∙ c.loop-begun.invariant.starts rest;
      begun = omega (arith, c.loop-begun-test.true);
      length = search rules;
    }
