use Rattle.rl_session.proofs.Common.{arith, refl, ◌∷◌, [], length-append, err_from_is_err_and, on_ok_weaker, Write}
use Rattle.rl_session.proofs.Scripts.LineLemmas.{LineOut-said, Took-ended}
use Rattle.rl_session.proofs.Scripts.FaultLemmas.{Halts-none, Halts-ended, IfErr-only}
use Rattle.rl_session.proofs.script.Runner.end_line.Goals as goal

pub returns-in_err-said-clause-halts : goal.returns-in_err-said-clause-halts
returns-in_err-said-clause-halts g c =
    let p = err_from_is_err_and c.from_residual.result c.from_residual.ensures.1 in
    rw (p.1, p.2, c.in_err-said.ensures.err) (Halts-none _ _ _ _ (omega (arith, length-append c.args.end.now (10 ∷ []))))

pub returns-in_err-run_said-clause-halts : goal.returns-in_err-run_said-clause-halts
returns-in_err-run_said-clause-halts g c =
    let p = err_from_is_err_and c.from_residual-in_err-run_said.result c.from_residual-in_err-run_said.ensures.1 in
    rw (p.1, p.2, c.in_err-run_said.ensures.err) (Halts-none _ _ _ _ (omega (arith, length-append c.args.end.now (10 ∷ []))))

pub returns-clause-took : goal.returns-clause-took
returns-clause-took g c =
    let line = LineOut-said _ _ _ _ _ c.in_ok-said.ensures.ok c.in_ok-run_said.ensures.ok in
    on_ok_weaker c.put_line.result (λ written. Took-ended _ _ _ _ _ _ _ c.requires.part c.requires.end line written)
    (rw c.as_slice.ensures.value at c.put_line.ensures.ok)

pub returns-clause-halts : goal.returns-clause-halts
returns-clause-halts g c =
    let line = LineOut-said _ _ _ _ _ c.in_ok-said.ensures.ok c.in_ok-run_said.ensures.ok in
    let part = rw c.as_slice.ensures.value at c.put_line.ensures.part in
    IfErr-only _ c.put_line.result Write c.put_line.ensures.err part
    (λ p. Halts-ended _ _ _ _ _ _ c.requires.part c.requires.end (record { whole = _; new = _; k = p.0; output = line; part = p.1; is = refl }) p.2)
