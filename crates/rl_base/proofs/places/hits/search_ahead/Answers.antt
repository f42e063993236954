use Rattle.rl_base.proofs.Common.{rules}
use Rattle.rl_base.proofs.places.hits.search_ahead.Goals as goal

pub returns : goal.returns
returns c = search rules
