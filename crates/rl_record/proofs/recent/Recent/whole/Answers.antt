use Rattle.rl_record.proofs.Common.{refl}
use Rattle.rl_record.proofs.Records.FrontLemmas.{none-first}
use Rattle.rl_record.proofs.Records.TallyLemmas.{none-counted}
use Rattle.rl_record.proofs.recent.Recent.whole.Goals as goal

pub invariant_of-result : goal.invariant_of-result
invariant_of-result c = none-counted _ _ refl refl refl

pub returns : goal.returns
returns c = none-first _
