use Rattle.rl_line.proofs.Common.{rules}
use Rattle.rl_line.proofs.Plans.IndentLemmas.{blanks-len}
use Rattle.rl_line.proofs.line_buffer.indents.blanks.Goals as goal

pub returns-clause-len : goal.returns-clause-len
returns-clause-len c =
    let gone = c.floor_char_boundary in
    blanks-len c.args.amount c.min.result gone.result c.args.text.now c.trim_start.result.now c.trim_start.ensures.trim (search rules) gone.ensures.bound gone.ensures.boundary gone.ensures.nearest
