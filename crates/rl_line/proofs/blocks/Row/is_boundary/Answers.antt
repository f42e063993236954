use Rattle.rl_line.proofs.Common.{ap, arith, length, ◌∙◌}
use Rattle.rl_line.proofs.Lines.BlockLemmas.{run-starts}
use Rattle.rl_line.proofs.blocks.Row.is_boundary.Goals as goal

pub returns : goal.returns
returns g c =
    c.begins_character.ensures
    ∙ run-starts c.args.self.now c.run-run.result.now c.args.at c.run-run.ensures.stands (omega (arith, ap length c.self.view_is, c.self.invariant.0)) c.run-run.ensures.some
