use Rattle.rl_line.proofs.Common.{IsUtf8, ap, rules, subst}
use Rattle.rl_base.proofs.Texts.EventLemmas.{apply-Delete}
use Rattle.rl_line.proofs.Plans.PlanLemmas.{Taken-one}
use Rattle.rl_line.specs.Gapped.{Gapped}
use Rattle.rl_line.proofs.gapped.Gapped.take_out.Goals as goal

pub returns-clause-step : goal.returns-clause-step
returns-clause-step g c =
    let taken = Taken-one _ _ _ _ _ _ _ (apply-Delete c.args.self.now.roomy.line.text c.args.range.start c.args.range.end c.args.dir
    (subst IsUtf8 (ap (λ (s : Gapped). s.roomy.line.text) c.self.view_is) c.self.invariant.around.utf8) c.requires.range.0 c.requires.range.1 c.requires.range.2)
    c.requires.cursor (search rules) (search rules) in
    record { taken = taken; cursor = search rules }
