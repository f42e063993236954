use Rattle.rl_session.proofs.Common.{err_from_is_err_and}
use Rattle.rl_session.proofs.Scripts.FaultLemmas.{StoppedBy-first, Stopped-by}
use Rattle.rl_session.proofs.Scripts.LineLemmas.{Runs-nothing}
use Rattle.rl_session.proofs.script.run_script.Goals as goal

pub returns-in_err-interpreter : goal.returns-in_err-interpreter
returns-in_err-interpreter g c =
    let p = err_from_is_err_and c.from_residual.result c.from_residual.ensures.1 in
    rw (p.1, p.2, c.in_err-interpreter.ensures.err) (record { ok = tt; err = Stopped-by _ _ _ _ _ (StoppedBy-first _ _); fault = StoppedBy-first _ _ })

pub run_blocks-requires-clause-runs : goal.run_blocks-requires-clause-runs
run_blocks-requires-clause-runs g c = Runs-nothing _ _ _ _ c.in_ok-interpreter.ensures.ok c.new.ensures.items
