use Rattle.rl_base.specs.declared.listeners.Direction.TheVariants.{Forward, Backward}
use Rattle.rl_base.proofs.Texts.OccurrenceLemmas.{found_is_range}
use Rattle.rl_base.proofs.places.hits.find_text.Goals as goal

pub returns-in-Forward-clause-range : goal.returns-in-Forward-clause-range
returns-in-Forward-clause-range c = found_is_range c.args.text.now c.args.sought.now c.args.from Forward c.find_ahead.result c.find_ahead.ensures

pub returns-in-Backward-clause-range : goal.returns-in-Backward-clause-range
returns-in-Backward-clause-range c = found_is_range c.args.text.now c.args.sought.now c.args.from Backward c.find_back.result c.find_back.ensures
