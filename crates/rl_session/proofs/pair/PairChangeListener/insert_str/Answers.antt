use Rattle.rl_session.proofs.Common.{rules}
use Rattle.rl_session.proofs.pair.PairChangeListener.insert_str.Goals as goal

pub returns-clause-done : goal.returns-clause-done
returns-clause-done c = search rules
