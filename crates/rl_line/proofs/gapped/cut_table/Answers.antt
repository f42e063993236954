use Rattle.rl_line.proofs.Lines.GapLemmas.{IsTableAround-cut}
use Rattle.rl_line.proofs.gapped.cut_table.Goals as goal

pub returns : goal.returns
returns c = λ yes.
    IsTableAround-cut _ c.args.text.now _ c.args.from c.args.to c.requires.order c.requires.end (c.exchange_starts.ensures.table yes) (c.exchange_starts.ensures.border yes)
