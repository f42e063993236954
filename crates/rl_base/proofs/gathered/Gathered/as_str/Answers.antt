use Rattle.rl_base.proofs.Common.{arith}
use Rattle.rl_base.proofs.Texts.GatheredLemmas.{may_cut}
use Rattle.rl_base.proofs.gathered.Gathered.as_str.Goals as goal

pub range_from-requires : goal.range_from-requires
range_from-requires c = λ _. rw c.as_str.ensures.value (may_cut c.self.inside.buf c.self.inside.blanks c.self.inside.blanks c.self.invariant (omega arith))
