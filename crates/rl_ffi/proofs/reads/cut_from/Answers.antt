use Rattle.std.proofs.Common.{rules, arith, ◌≡◌, ◌≤◌, ◌+◌, List, drop, suc, length, length-append, slice_get, refl, sym, subst, ap, ◌∙◌}
use Rattle.std.proofs.lemmas.List.{length-drop}
use Rattle.std.proofs.lemmas.Option.{slice_get_past}
use Rattle.std.specs.List.{concat}
use Rattle.std.specs.Str.{IsUtf8}
use Rattle.std.specs.Prelude.{slice_set, option_map}
use Rattle.unicode_segmentation.specs.Iter.{graphemes_left}
use Rattle.rl_base.specs.Clusters.{bytes_in, clusters}
use Rattle.rl_base.specs.Screen.{filled, filled_after}
use Rattle.rl_base.specs.Widths.{width}
use Rattle.rl_base.proofs.Clusters.ClusterLemmas.{bytes_in-clusters}
use Rattle.rl_base.proofs.Clusters.RowLemmas.{fill-nothing, fill-one, fill-past_all}
use Rattle.rl_ffi.specs.Reads.{begin_of}
use Rattle.rl_ffi.specs.Texts.{measured}
use Rattle.rl_ffi.specs.declared.shapes.CCluster.{CCluster}
use Rattle.rl_ffi.proofs.reads.cut_from.Goals as goal

pub loop-cluster-init : goal.loop-cluster-init
loop-cluster-init c =
    let text = c.args.text.now in
    let from = c.args.from in
    let within : from ≤ length text = search rules in
    let left : graphemes_left c.into_iter-cluster-iterator.result ≡ clusters (drop from text) =
    ap graphemes_left c.into_iter-cluster-iterator.ensures.into_iter_gives ∙ c.graphemes-cluster-items.ensures.left ∙ ap clusters c.range_from.ensures.value in
    let utf8 : IsUtf8 (drop from text) = subst IsUtf8 c.range_from.ensures.value c.range_from.utf8 in
    let all = ap (measured c.args.mode from) left in
    record {
      places = omega (arith, within, ap bytes_in left, bytes_in-clusters (drop from text) utf8, length-drop from text);
      room = omega arith;
      size = refl;
      written = ap (λ l. filled l c.args.out.now) all;
      count = omega (arith, ap length all);
      get = λ j.
          let same : j ≡ 0 + j = omega arith in
          ap (λ l. slice_get l j) all ∙ ap (slice_get (measured c.args.mode from (clusters (drop from text)))) same;
    }

pub returns-then-count-out-clause-written : goal.returns-then-count-out-clause-written
returns-then-count-out-clause-written c =
    let l = c.loop-cluster in
    sym (fill-past_all l.count (measured c.args.mode l.from (graphemes_left l.cluster-iterator)) l.out (omega (arith, c.if-count-out.true))) ∙ l.invariant.written

pub returns-then-count-out-clause-count : goal.returns-then-count-out-clause-count
returns-then-count-out-clause-count c = omega (arith, c.loop-cluster.invariant.count, c.loop-cluster.invariant.size, c.if-count-out.true)

pub returns-then-count-out-clause-next : goal.returns-then-count-out-clause-next
returns-then-count-out-clause-next c =
    let l = c.loop-cluster in
    let all = measured c.args.mode c.args.from (clusters (drop c.args.from c.args.text.now)) in
    let here : l.count + 0 ≡ length c.args.out.now = omega (arith, l.invariant.size, c.if-count-out.true) in
    ap (λ cs. begin_of (measured c.args.mode l.from cs) 0) (sym c.in-Some.ensures.steps)
    ∙ ap (option_map (λ (it : CCluster). it.from)) (l.invariant.get 0) ∙ ap (begin_of all) here

pub loop-cluster-preserved : goal.loop-cluster-preserved
loop-cluster-preserved c =
    let i = c.loop-cluster.invariant in
    let step = c.in-Some.ensures.steps in
    let mode = c.args.mode in
    let count = c.loop-cluster.count in
    let from = c.loop-cluster.from in
    let cluster = c.in-Some.cluster.now in
    let rest = graphemes_left c.next.new.self in
    let one : CCluster = record { from = from; to = from + length cluster; columns = width mode cluster } in
    let more : List CCluster = measured mode (from + length cluster) rest in
    let all = measured mode c.args.from (clusters (drop c.args.from c.args.text.now)) in
    let next : count + 1 ≡ suc count = omega arith in
    record {
      places = omega (arith, i.places, ap bytes_in step, length-append cluster (concat rest));
      room = search (rules, arith);
      size = search rules;
      written =
          ap (λ k. filled_after (count + 1) more (slice_set c.loop-cluster.out count (record { from = from; to = from + length cluster; columns = k }))) (c.from-columns.ensures ∙ c.width.ensures)
          ∙ ap (λ n. filled_after n more (slice_set c.loop-cluster.out count one)) next ∙ fill-one count one more c.loop-cluster.out (search (rules, arith))
          ∙ sym (ap (λ l. filled_after count (measured mode from l) c.loop-cluster.out) step) ∙ i.written;
      count = omega (arith, i.count, ap (λ l. length (measured mode from l)) step);
      get = λ j.
          let same : count + suc j ≡ count + 1 + j = omega arith in
          sym (ap (λ l. slice_get (measured mode from l) (suc j)) step) ∙ i.get (suc j) ∙ ap (slice_get all) same;
    }

pub returns-clause-written : goal.returns-clause-written
returns-clause-written c =
    let l = c.loop-cluster in
    sym (fill-nothing l.count l.out) ∙ sym (ap (λ cs. filled_after l.count (measured c.args.mode l.from cs) l.out) c.in-None.ensures.steps.0)
    ∙ l.invariant.written

pub returns-clause-count : goal.returns-clause-count
returns-clause-count c =
    let l = c.loop-cluster in
    omega (arith, l.invariant.room, l.invariant.count, l.invariant.size, ap (λ cs. length (measured c.args.mode l.from cs)) c.in-None.ensures.steps.0)

pub returns-clause-next : goal.returns-clause-next
returns-clause-next c =
    let l = c.loop-cluster in
    let all = measured c.args.mode c.args.from (clusters (drop c.args.from c.args.text.now)) in
    ap (option_map (λ (it : CCluster). it.from)) (sym (slice_get_past all (length c.args.out.now)
    (omega (arith, l.invariant.room, l.invariant.count, l.invariant.size, ap (λ cs. length (measured c.args.mode l.from cs)) c.in-None.ensures.steps.0))))
