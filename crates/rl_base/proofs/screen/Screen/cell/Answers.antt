use Rattle.std.proofs.Common.{rules, arith, ◌-◌, ℕ, length, sym, ap, ◌∙◌}
use Rattle.unicode_segmentation.specs.Iter.{graphemes_left}
use Rattle.rl_base.specs.Screen.{laid}
use Rattle.rl_base.proofs.Clusters.CellLemmas.{laid-goes, laid-stops}
use Rattle.rl_base.proofs.screen.Screen.cell.Goals as goal

pub returns-then-left-bytes-clause-value : goal.returns-then-left-bytes-clause-value
returns-then-left-bytes-clause-value c =
    c.stands.ensures.cell
    ∙ sym (laid-stops c.args.self.now c.loop-cluster.left (c.loop-cluster.row, c.loop-cluster.column) (graphemes_left c.loop-cluster.cluster-iterator) (graphemes_left c.next.new.self) c.in-Some.cluster.now c.in-Some.ensures.steps
    (omega (arith, c.if-left-bytes.true))) ∙ c.loop-cluster.invariant.laid

pub loop-cluster-preserved : goal.loop-cluster-preserved
loop-cluster-preserved c =
    let screen = c.args.self.now in
    let left = c.loop-cluster.left in
    let cluster = c.in-Some.cluster.now in
    let rest = graphemes_left c.next.new.self in
    record {
      rows = search rules;
      column = search rules;
      laid =
          ap (λ (at : ℕ × ℕ). laid screen (left - length cluster) at rest) c.after.ensures.place
          ∙ sym (laid-goes screen left (c.loop-cluster.row, c.loop-cluster.column) _ rest cluster c.in-Some.ensures.steps (omega (arith, c.if-left-bytes.false))) ∙ c.loop-cluster.invariant.laid;
    }
