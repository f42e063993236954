use Rattle.rl_line.proofs.Common.{arith, take_rest, ◌+◌, ◌-◌, ◌∙◌}
use Rattle.rl_line.proofs.Lines.GapLemmas.{drop-gapped}
use Rattle.rl_line.proofs.gapped.beside.Goals as goal

pub returns : goal.returns
returns c =
    let bytes = c.args.bytes.now in
    take_rest bytes (c.args.rest + (c.args.at - c.args.gap)) ∙ drop-gapped bytes c.args.gap c.args.rest c.args.at (omega (arith, c.requires.order, c.requires.inside)) c.requires.after
