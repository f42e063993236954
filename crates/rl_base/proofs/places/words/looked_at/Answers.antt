use Rattle.rl_base.proofs.Common.{rules}
use Rattle.rl_base.proofs.places.words.looked_at.Goals as goal

pub returns-then-eq : goal.returns-then-eq
returns-then-eq c = search rules
