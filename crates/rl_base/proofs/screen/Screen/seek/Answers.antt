use Rattle.std.proofs.Common.{rules, arith, ap₂, ℕ, cond, true, false, ◌≡◌, ◌+◌, length, length-append, sym, ap, ◌∙◌}
use Rattle.std.specs.List.{concat}
use Rattle.unicode_segmentation.specs.Iter.{graphemes_left}
use Rattle.rl_base.specs.Clusters.{bytes_in, clusters}
use Rattle.rl_base.specs.Screen.{after, cells, is_within, last_within, stands}
use Rattle.rl_base.proofs.Clusters.CellLemmas.{first_cell, none-within}
use Rattle.rl_base.proofs.Clusters.ClusterLemmas.{bytes_in-clusters}
use Rattle.rl_base.proofs.Clusters.RowLemmas.{cell-end, end_cell, rows-past}
use Rattle.rl_base.proofs.screen.Screen.seek.Goals as goal

pub loop-cluster-init : goal.loop-cluster-init
loop-cluster-init c =
    let left : graphemes_left c.into_iter-cluster-iterator.result ≡ clusters c.args.text.now =
    ap graphemes_left c.into_iter-cluster-iterator.ensures.into_iter_gives ∙ c.graphemes-cluster-items.ensures.left in
    record {
      height = search rules;
      column = search rules;
      place = omega (arith, ap bytes_in left, bytes_in-clusters c.args.text.now c.utf8.text);
      found = search rules;
      chosen = search rules;
      end =
          ap₂ (λ (column : ℕ) l. end_cell c.args.self.now (0, column) l) c.from-column.ensures left
          ∙ sym (cell-end c.args.self.now c.args.text.now c.utf8.text);
    }

pub returns-then-not-is_within-clause-value : goal.returns-then-not-is_within-clause-value
returns-then-not-is_within-clause-value c =
    let at : ℕ × ℕ = (c.loop-cluster.row, c.loop-cluster.column) in
    let past : is_within (first_cell c.args.self.now at (graphemes_left c.loop-cluster.cluster-iterator)) c.args.to ≡ false =
    ap (λ l. is_within (first_cell c.args.self.now at l) c.args.to) c.in-Some.ensures.steps
    ∙ ap (λ cell. is_within cell c.args.to) (sym c.stands-at.ensures.cell) ∙ sym c.is_within.ensures ∙ c.if-not-is_within.true in
    sym (none-within c.args.self.now c.args.to c.loop-cluster.place at (graphemes_left c.loop-cluster.cluster-iterator) c.loop-cluster.found past)
    ∙ c.loop-cluster.invariant.chosen

pub returns-then-not-is_within-clause-end : goal.returns-then-not-is_within-clause-end
returns-then-not-is_within-clause-end c =
    let past : is_within c.stands-at.result c.args.to ≡ false = sym c.is_within.ensures ∙ c.if-not-is_within.true in
    λ above. absurd (omega (arith, above, rows-past c.stands-at.result c.args.to past))

pub loop-cluster-preserved : goal.loop-cluster-preserved
loop-cluster-preserved c =
    let i = c.loop-cluster.invariant in
    let step = c.in-Some.ensures.steps in
    let rest = graphemes_left c.next.new.self in
    let screen = c.args.self.now in
    let place = c.loop-cluster.place in
    let cluster = c.in-Some.cluster.now in
    let at : ℕ × ℕ = (c.loop-cluster.row, c.loop-cluster.column) in
    let next = place + length cluster in
    let within : is_within (stands screen at cluster) c.args.to ≡ true =
    ap (λ cell. is_within cell c.args.to) (sym c.stands-at.ensures.cell) ∙ sym c.is_within.ensures ∙ c.if-not-is_within.false in
    record {
      height = search rules;
      column = search rules;
      place = omega (arith, i.place, ap bytes_in step, length-append cluster (concat rest));
      found = search rules;
      chosen =
          ap (λ to. last_within c.args.to place (cells screen next to rest)) c.after.ensures.place
          ∙ sym (ap (λ b. last_within c.args.to (cond b place c.loop-cluster.found) (cells screen next (after screen at cluster) rest)) within)
          ∙ sym (ap (λ l. last_within c.args.to c.loop-cluster.found (cells screen place at l)) step) ∙ i.chosen;
      end = ap (λ (to : ℕ × ℕ). end_cell screen to rest) c.after.ensures.place ∙ sym (ap (λ l. end_cell screen at l) step) ∙ i.end;
    }

pub wrapped-end-requires : goal.wrapped-end-requires
wrapped-end-requires c = search (rules, arith)
