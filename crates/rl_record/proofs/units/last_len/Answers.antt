use Rattle.rl_record.proofs.Common.{arith, inl, inr, ◌<◌, ◌≡◌}
use Rattle.rl_record.proofs.Records.EntryLemmas.{count-end, count-step, step-begin, step-end, step-end0}
use Rattle.rl_record.proofs.units.last_len.Goals.{else-depth-eq0, else-loop-at-test, else-units-gt0, then-depth-eq0, then-loop-at-test+else-depth-gt0, then-units-gt0}
use Rattle.rl_record.proofs.units.last_len.Goals as goal

pub loop-at-preserved-else-depth-eq0-2 : goal.loop-at-preserved-else-depth-eq0-2
loop-at-preserved-else-depth-eq0-2 c =
    let deep : 0 < c.loop-at.depth = omega arith in
    record {
      in_range = omega arith;
      shallow = omega arith;
      counted = count-step _ _ _ _ _ _ _ _ _ c.loop-at-test.true c.loop-at.invariant.in_range c.in-Begin.is
          (λ rs. step-begin c.loop-at.depth c.loop-at.units rs deep) c.loop-at.invariant.counted;
    }

pub loop-at-preserved-in-End : goal.loop-at-preserved-in-End
loop-at-preserved-in-End c =
    elim c.if-depth-eq0.branch [
      | then-depth-eq0 w ↦
          let flat = w.if-depth-eq0.true in
          let some_left : 0 < c.loop-at.units = elim c.if-depth-gt0.either [ inl h ↦ h | inr h ↦ absurd (omega (arith, flat, h.1)) ] in
          record {
            in_range = omega arith;
            shallow = omega arith;
            counted = rw w.units-is (count-step _ _ _ _ _ _ _ _ _ c.loop-at-test.true c.loop-at.invariant.in_range c.in-End.is
                (λ rs. step-end0 c.loop-at.depth c.loop-at.units rs flat some_left) c.loop-at.invariant.counted);
          }
      | else-depth-eq0 w ↦
          let deep : 0 < c.loop-at.depth = omega (arith, w.if-depth-eq0.false) in
          record {
            in_range = omega arith;
            shallow = omega arith;
            counted = rw w.units-is (count-step _ _ _ _ _ _ _ _ _ c.loop-at-test.true c.loop-at.invariant.in_range c.in-End.is
                (λ rs. step-end c.loop-at.depth c.loop-at.units rs deep) c.loop-at.invariant.counted);
          }
    ]

pub returns : goal.returns
returns c =
    elim c.loop-at-test.branch [
      | then-loop-at-test+else-depth-gt0 w ↦
          let both = w.if-depth-gt0.false in
          let units : c.loop-at.units ≡ 0 = omega (arith, both.0) in
          let depth : c.loop-at.depth ≡ 0 = omega (arith, both.1) in
          count-end _ _ _ _ _ c.requires (inr (depth, units)) c.loop-at.invariant.counted
      | else-loop-at-test w ↦
          count-end _ _ _ _ _ c.requires (inl (omega (arith, w.loop-at-test.false))) c.loop-at.invariant.counted
    ]
