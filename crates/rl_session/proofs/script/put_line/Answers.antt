use Rattle.rl_session.proofs.Common.{arith, ◌≡◌, ◌-◌, take, drop, length, sym, subst, Appends-trans, take-add, take_all, length-drop, Appends}
use Rattle.rl_session.proofs.script.put_line.Goals as goal

pub loop-done-preserved : goal.loop-done-preserved
loop-done-preserved g c =
    let line = c.args.line.now in
    let done = c.loop-done.done in
    let rest : take (length line - done) (drop done line) ≡ drop done line = take_all (length line - done) (drop done line) (omega (arith, length-drop done line)) in
    let bytes = rw rest at c.in-Ok.ensures.bytes in
    let bound = rw rest at c.in-Ok.ensures.bound in
    record {
      within = omega (arith, bound, length-drop done line);
      written = subst (λ bs. Appends (g.W.Write.contents c.args.writer.now) (g.W.Write.contents c.write.new.self) bs) (sym (take-add done c.in-Ok.n line))
          (Appends-trans _ _ _ _ _ c.loop-done.invariant.written bytes);
    }
