use Rattle.rl_session.specs.Performing.{counted_as}
use Rattle.rl_session.proofs.Runs.CallLemmas.{limit-Obeyed}
use Rattle.rl_session.proofs.performing.the_limit_stays.Goals as goal

pub returns : goal.returns
returns c = λ old new command reply p. limit-Obeyed old new (counted_as old command) reply p
