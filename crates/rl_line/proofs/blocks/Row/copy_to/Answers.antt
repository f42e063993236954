use Rattle.rl_line.proofs.Common.{ap, append_assoc, length, sym, take, take-add, ◌++◌, ◌∙◌}
use Rattle.rl_line.proofs.Lines.BlockLemmas.{run-within}
use Rattle.rl_line.proofs.blocks.Row.copy_to.Goals as goal

pub loop-done-preserved : goal.loop-done-preserved
loop-done-preserved g c =
    let s = c.args.self.now in
    let r = c.run-run.result.now in
    let done = c.loop-done.done in
    record {
      within = run-within s r done c.run-run.ensures.stands c.loop-done.invariant.within;
      so_far = c.in_ok-extend_from_slice.ensures.items ∙ ap (λ t. t ++ r) c.loop-done.invariant.so_far ∙ append_assoc c.args.out.now.items (take done s) r
          ∙ ap (λ t. c.args.out.now.items ++ t) (ap (λ t. take done s ++ t) c.run-run.ensures.stands ∙ sym (take-add done (length r) s));
    }
