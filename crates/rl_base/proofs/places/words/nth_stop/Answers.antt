use Rattle.rl_base.proofs.Common.{◌<◌, sym, ◌∙◌, arith}
use Rattle.rl_base.proofs.Clusters.WordLemmas.{nth-past_stop}
use Rattle.rl_base.proofs.places.words.nth_stop.Goals as goal

pub loop-start-preserved-else-left-eq1 : goal.loop-start-preserved-else-left-eq1
loop-start-preserved-else-left-eq1 c =
    let i = c.loop-start.invariant in
    let several : 1 < c.loop-start.left = omega (arith, i.some) in
    record {
      cluster = c.in-Some.cluster.now;
      class = c.class_of-next.ensures;
      some = omega (arith, i.some);
      found = sym (nth-past_stop c.args.at c.args.word _ _ _ _ _ _ c.in-Some.ensures.steps (c.in-Some-stop_between.ensures _ _ i.class c.class_of-next.ensures) several) ∙ i.found;
    }
