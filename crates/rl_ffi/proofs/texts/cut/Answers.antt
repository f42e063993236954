use Rattle.std.proofs.Common.{rules, arith, ◌≡◌, ◌+◌, ◌∷◌, List, suc, length, length-append, sym, ap, ◌∙◌}
use Rattle.std.specs.List.{concat}
use Rattle.std.specs.Prelude.{slice_set}
use Rattle.unicode_segmentation.specs.Iter.{graphemes_left}
use Rattle.rl_base.specs.Clusters.{bytes_in, clusters}
use Rattle.rl_base.specs.Screen.{filled_after}
use Rattle.rl_base.specs.Widths.{width}
use Rattle.rl_base.proofs.Clusters.ClusterLemmas.{bytes_in-clusters}
use Rattle.rl_base.proofs.Clusters.RowLemmas.{fill-none, fill-nothing, fill-one}
use Rattle.rl_ffi.specs.Texts.{measured}
use Rattle.rl_ffi.specs.declared.shapes.CCluster.{CCluster}
use Rattle.rl_ffi.proofs.texts.cut.Goals as goal
use Rattle.rl_ffi.proofs.texts.cut.Goals.{then-count-out, else-count-out}

pub loop-cluster-init : goal.loop-cluster-init
loop-cluster-init c =
    let left : graphemes_left c.into_iter-cluster-iterator.result ≡ clusters c.args.text.now =
    ap graphemes_left c.into_iter-cluster-iterator.ensures.into_iter_gives ∙ c.graphemes-cluster-items.ensures.left in
    record {
      few = search rules;
      places = omega (arith, ap bytes_in left, bytes_in-clusters c.args.text.now c.utf8.text);
      written = search rules;
      count = search rules;
    }

pub loop-cluster-preserved : goal.loop-cluster-preserved
loop-cluster-preserved c =
    let i = c.loop-cluster.invariant in
    let step = c.in-Some.ensures.steps in
    let mode = c.args.mode in
    let count = c.loop-cluster.count in
    let from = c.loop-cluster.from in
    let cluster = c.in-Some.cluster.now in
    let rest = graphemes_left c.next.new.self in
    let one : CCluster = record { from = from; to = from + length cluster; columns = width mode cluster } in
    let more : List CCluster = measured mode (from + length cluster) rest in
    let next : count + 1 ≡ suc count = omega arith in
    let put : filled_after (count + 1) more c.if-count-out.out ≡ filled_after count (one ∷ more) c.loop-cluster.out =
    elim c.if-count-out.branch [
      | then-count-out w ↦ ap (filled_after (count + 1) more) w.out-is
          ∙ ap (λ k. filled_after (count + 1) more (slice_set c.loop-cluster.out count (record { from = from; to = from + length cluster; columns = k }))) (w.from-columns.ensures ∙ w.width.ensures)
          ∙ ap (λ n. filled_after n more (slice_set c.loop-cluster.out count one)) next ∙ fill-one count one more c.loop-cluster.out (omega (arith, w.if-count-out.true))
      | else-count-out w ↦ ap (filled_after (count + 1) more) w.out-is ∙ ap (λ n. filled_after n more c.loop-cluster.out) next
          ∙ fill-none count one more c.loop-cluster.out (omega (arith, w.if-count-out.false))
    ] in
    record {
      few = search rules;
      places = omega (arith, i.places, ap bytes_in step, length-append cluster (concat rest));
      written = put ∙ sym (ap (λ l. filled_after count (measured mode from l) c.loop-cluster.out) step) ∙ i.written;
      count = omega (arith, i.count, ap (λ l. length (measured mode from l)) step);
    }

pub returns-clause-written : goal.returns-clause-written
returns-clause-written c =
    sym (fill-nothing c.loop-cluster.count c.loop-cluster.out)
    ∙ sym (ap (λ l. filled_after c.loop-cluster.count (measured c.args.mode c.loop-cluster.from l) c.loop-cluster.out) c.in-None.ensures.steps.0)
    ∙ c.loop-cluster.invariant.written
