use Rattle.rl_base.proofs.Common.{arith, eq-eqb, sym}
use Rattle.rl_base.proofs.Clusters.PieceLemmas.{clusters-lone}
use Rattle.rl_base.proofs.places.classes.is_one_cluster.Goals as goal

pub returns-then-text-eq1 : goal.returns-then-text-eq1
returns-then-text-eq1 c = sym (eq-eqb _ 1 (clusters-lone c.args.text.now c.utf8.text (omega arith)))
