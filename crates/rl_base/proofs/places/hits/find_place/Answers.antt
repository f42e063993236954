use Rattle.rl_base.proofs.Common.{rules}
use Rattle.rl_base.proofs.places.hits.find_place.Goals as goal

pub returns-in-Forward-clause-value : goal.returns-in-Forward-clause-value
returns-in-Forward-clause-value c = search rules

pub returns-in-Forward-clause-boundary : goal.returns-in-Forward-clause-boundary
returns-in-Forward-clause-boundary c = search rules

pub returns-in-Forward-clause-side : goal.returns-in-Forward-clause-side
returns-in-Forward-clause-side c = search rules
