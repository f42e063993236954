use Rattle.rl_session.proofs.Common.{◌<◌, ◌++◌, ◌∷◌, [], arith, length, err_from_is_err_and}
use Rattle.rl_session.proofs.Scripts.LineLemmas.{longer_front, HasNoNewline-append, Took-trans, Took-part}
use Rattle.rl_session.proofs.Scripts.FaultLemmas.{Halts-none, Halts-after, Halts-longer}
use Rattle.rl_session.proofs.script.Runner.take_block.Goals as goal

pub loop-end-preserved : goal.loop-end-preserved
loop-end-preserved g c =
    let so_far = c.loop-end.invariant.took in
    let parts = rw c.in-Some.is at c.split_line.ensures in
    let end = c.in-Some.end.now in
    record {
      took = (
        so_far.0 ++ (end ++ 10 ∷ []),
        longer_front c.args.block.now so_far.0 c.loop-end.rest.now end c.in-Some.after.now so_far.1 parts.1,
        rw c.in_ok-end_line.ensures.given_up (Took-trans _ _ _ _ _ _ _ _ _ _ _ so_far.2 c.in_ok-end_line.ensures.took),
      );
      clean = rw c.in_ok-end_line.ensures.given_up tt;
    }

pub returns-in_err-end_line-clause-halts : goal.returns-in_err-end_line-clause-halts
returns-in_err-end_line-clause-halts g c =
    let so_far = c.loop-end.invariant.took in
    let parts = rw c.in-Some.is at c.split_line.ensures in
    let end = c.in-Some.end.now in
    let whole = longer_front c.args.block.now so_far.0 c.loop-end.rest.now end c.in-Some.after.now so_far.1 parts.1 in
    let all = Halts-longer _ _ _ _ c.in-Some.after.now _ _ (Halts-after _ _ _ _ _ _ _ _ _ _ so_far.2 c.in_err-end_line.ensures.halts) in
    let p = err_from_is_err_and c.from_residual.result c.from_residual.ensures.1 in
    rw (p.1, p.2, whole) all

pub returns-in-Ok-clause-took : goal.returns-in-Ok-clause-took
returns-in-Ok-clause-took g c =
    let so_far = c.loop-end.invariant.took in
    rw (c.in-Ok.ensures.items, so_far.1) (Took-trans _ _ _ _ _ _ _ _ _ _ _ so_far.2 (Took-part _ _ c.loop-end.rest.now _))

pub returns-in-Ok-clause-clean : goal.returns-in-Ok-clause-clean
returns-in-Ok-clause-clean g c =
    let rest = rw c.in_default.is at c.split_line.ensures in
    rw c.in-Ok.ensures.items (HasNoNewline-append _ c.loop-end.rest.now c.loop-end.invariant.clean rest)

pub returns-in-Err-clause-halts : goal.returns-in-Err-clause-halts
returns-in-Err-clause-halts g c =
    let so_far = c.loop-end.invariant.took in
    let some : 0 < length c.loop-end.rest.now = omega (arith, c.in-Err.ensures.full, c.loop-end.self.part.ok.1) in
    rw so_far.1 (Halts-after _ _ _ _ _ _ _ _ _ _ so_far.2 (Halts-none _ _ c.loop-end.rest.now _ some))
