use Rattle.rl_base.proofs.Common.{arith}
use Rattle.rl_base.proofs.Texts.GatheredLemmas.{may_cut}
use Rattle.rl_base.proofs.gathered.Gathered.pack.Goals as goal

pub replace_range-requires-clause-end_boundary : goal.replace_range-requires-clause-end_boundary
replace_range-requires-clause-end_boundary c =
    let at = may_cut c.self.inside.buf c.self.inside.blanks c.self.inside.blanks c.self.invariant (omega arith) in (at.0, λ _. at.1)
