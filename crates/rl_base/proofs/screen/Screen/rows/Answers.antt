use Rattle.std.proofs.Common.{rules, arith, ◌≡◌, ◌+◌, ◌-◌, ◌++◌, ℕ, List, [], length, length-append, max, replicate, sym, ap, ◌∙◌}
use Rattle.std.specs.List.{concat}
use Rattle.unicode_segmentation.specs.Iter.{graphemes_left}
use Rattle.rl_base.specs.Clusters.{bytes_in, clusters}
use Rattle.rl_base.specs.Screen.{after, begins, cells, filled_after}
use Rattle.rl_base.proofs.Clusters.ClusterLemmas.{bytes_in-clusters}
use Rattle.rl_base.proofs.Clusters.RowLemmas.{count-on, fill-nothing}
use Rattle.rl_base.proofs.screen.Screen.rows.Goals as goal

pub loop-cluster-init : goal.loop-cluster-init
loop-cluster-init c =
    let left : graphemes_left c.into_iter-cluster-iterator.result ≡ clusters c.args.text.now =
    ap graphemes_left c.into_iter-cluster-iterator.ensures.into_iter_gives ∙ c.graphemes-cluster-items.ensures.left in
    record {
      height = search rules;
      column = search rules;
      few = search rules;
      place = omega (arith, ap bytes_in left, bytes_in-clusters c.args.text.now c.utf8.text);
      starts = search rules;
      count = search rules;
    }

pub loop-cluster-preserved : goal.loop-cluster-preserved
loop-cluster-preserved c =
    let i = c.loop-cluster.invariant in
    let step = c.in-Some.ensures.steps in
    let rest = graphemes_left c.next.new.self in
    let screen = c.args.self.now in
    let place = c.loop-cluster.place in
    let begun = c.loop-cluster.begun in
    let at : ℕ × ℕ = (c.loop-cluster.row, c.loop-cluster.column) in
    let next = place + length c.in-Some.cluster.now in
    let more : ℕ → List ℕ = λ b. begins b (cells screen next (after screen at c.in-Some.cluster.now) rest) in
    let now = c.begin_rows-begun.result in
    let last = c.stands-last.result.0 in
    let begins_now : now ≡ max begun (last + 1) = omega (arith, c.begin_rows-begun.ensures.begun, c.saturating_sub.ensures) in
    record {
      height = search rules;
      column = search rules;
      few = search rules;
      place = omega (arith, i.place, ap bytes_in step, length-append c.in-Some.cluster.now (concat rest));
      starts =
          ap (λ to. filled_after now (begins now (cells screen next to rest)) c.begin_rows-begun.new.starts) c.after.ensures.place
          ∙ c.begin_rows-begun.ensures.starts (more now)
          ∙ ap (λ n. filled_after begun (replicate n place ++ more now) c.loop-cluster.starts) c.saturating_sub.ensures
          ∙ ap (λ b. filled_after begun (replicate (last + 1 - begun) place ++ more b) c.loop-cluster.starts) begins_now
          ∙ ap (λ (w : ℕ × ℕ). filled_after begun (replicate (w.0 + 1 - begun) place ++ more (max begun (w.0 + 1))) c.loop-cluster.starts) c.stands-last.ensures.cell
          ∙ sym (ap (λ l. filled_after begun (begins begun (cells screen place at l)) c.loop-cluster.starts) step) ∙ i.starts;
      count =
          ap (λ to. now + length (begins now (cells screen next to rest))) c.after.ensures.place
          ∙ ap (λ b. b + length (more b)) begins_now ∙ sym (count-on begun last place (more (max begun (last + 1))))
          ∙ ap (λ (w : ℕ × ℕ). begun + length (replicate (w.0 + 1 - begun) place ++ more (max begun (w.0 + 1)))) c.stands-last.ensures.cell
          ∙ sym (ap (λ l. begun + length (begins begun (cells screen place at l))) step) ∙ i.count;
    }

pub returns-clause-starts : goal.returns-clause-starts
returns-clause-starts c =
    let screen = c.args.self.now in
    let place = c.loop-cluster.place in
    let begun = c.loop-cluster.begun in
    let at : ℕ × ℕ = (c.loop-cluster.row, c.loop-cluster.column) in
    sym (fill-nothing c.begin_rows.result c.begin_rows.new.starts) ∙ c.begin_rows.ensures.starts []
    ∙ ap (λ n. filled_after begun (replicate n place ++ []) c.loop-cluster.starts) c.saturating_sub-2.ensures
    ∙ ap (λ (w : ℕ × ℕ). filled_after begun (replicate (w.0 + 1 - begun) place ++ []) c.loop-cluster.starts) c.wrapped-last.ensures.cell
    ∙ sym (ap (λ l. filled_after begun (begins begun (cells screen place at l)) c.loop-cluster.starts) c.in-None.ensures.steps.0)
    ∙ c.loop-cluster.invariant.starts
