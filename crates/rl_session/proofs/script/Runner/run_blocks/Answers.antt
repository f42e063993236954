use Rattle.rl_session.proofs.Common.{◌==◌, ap, arith, ◌≤◌, length, take, length-take, refl, sym, ◌∙◌, on_ok_weaker, err_from_is_err_and, IfErr-weaker, Keeps-refl}
use Rattle.rl_session.proofs.Scripts.LineLemmas.{Runs-more, Ran-end, Ran-last}
use Rattle.rl_session.proofs.Scripts.NumberLemmas.{is_nil, not_nil}
use Rattle.rl_session.proofs.Scripts.FaultLemmas.{StoppedBy-halts, StoppedBy-last, StoppedBy-read, Stopped-by, Stopped-at}
use Rattle.rl_session.proofs.script.Runner.run_blocks.Goals as goal

pub returns-then-is_empty : goal.returns-then-is_empty
returns-then-is_empty g c =
    let bytes = rw c.if-count-eq0.true at c.in-Ok.ensures.bytes in
    let none = is_nil c.loop.self.part.items (ap (λ n. n == 0) (sym c.loop.self.part.ok.0) ∙ sym c.is_empty.ensures ∙ c.if-is_empty.true) in
    record { ok = Ran-end _ _ _ _ _ _ _ c.loop.invariant.runs none bytes.0 (bytes.1 refl (omega arith)); err = tt; fault = tt }

pub returns-then-count-eq0 : goal.returns-then-count-eq0
returns-then-count-eq0 g c =
    let bytes = rw c.if-count-eq0.true at c.in-Ok.ensures.bytes in
    let some = not_nil c.loop.self.part.items (ap (λ n. n == 0) (sym c.loop.self.part.ok.0) ∙ sym c.is_empty.ensures ∙ c.if-is_empty.false) in
    let stopped = IfErr-weaker c.end_line.result _ _
    (λ f h. StoppedBy-last f _ _ _ _ _ _ _ _ c.loop.invariant.runs c.loop.invariant.clean some bytes.0 (bytes.1 refl (omega arith)) h) c.end_line.ensures.halts in
    record {
      ok = on_ok_weaker c.end_line.result
          (λ t. Ran-last _ _ _ _ _ _ _ _ _ c.loop.invariant.runs c.loop.invariant.clean some bytes.0 (bytes.1 refl (omega arith)) t) c.end_line.ensures.took;
      err = Stopped-at _ _ _ _ c.end_line.result stopped;
      fault = stopped;
    }

pub loop-preserved : goal.loop-preserved
loop-preserved g c = record {
  runs = Runs-more _ _ _ _ _ _ _ _ _ _ _ c.loop.invariant.runs c.in-Ok.ensures.bytes.0 c.in_ok-take_block.ensures.took;
  clean = c.in_ok-take_block.ensures.clean;
  block = omega arith;
}

pub returns-in-Err : goal.returns-in-Err
returns-in-Err g c =
    let stopped = StoppedBy-read _ _ _ _ _ _ _ c.loop.invariant.runs c.loop.invariant.clean c.in-Err.ensures.bytes in
    record { ok = tt; err = Stopped-by _ _ _ _ _ stopped; fault = stopped }

pub returns-in_err-take_block : goal.returns-in_err-take_block
returns-in_err-take_block g c =
    let p = err_from_is_err_and c.from_residual.result c.from_residual.ensures.1 in
    let small : length (take c.in-Ok.count c.read.new.buf) ≤ 4096 = omega (arith, length-take c.in-Ok.count c.read.new.buf) in
    let stopped =
    StoppedBy-halts _ _ _ _ _ _ _ _ _ _ c.loop.invariant.runs c.loop.invariant.clean c.in-Ok.ensures.bytes.0 small c.in_err-take_block.ensures.halts in
    rw (p.1, p.2) (record { ok = tt; err = Stopped-by _ _ _ _ _ stopped; fault = stopped })

pub returns : goal.returns
returns g c =
    let stopped = StoppedBy-read _ _ _ _ _ _ _ c.loop.invariant.runs c.loop.invariant.clean (Keeps-refl _) in
    record { ok = tt; err = Stopped-by _ _ _ _ _ stopped; fault = stopped }
