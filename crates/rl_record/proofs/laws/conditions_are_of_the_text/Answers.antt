use Rattle.rl_record.proofs.Records.WalkLemmas.{ways-ahead, ways-back}
use Rattle.rl_record.proofs.laws.conditions_are_of_the_text.Goals as goal

pub returns-clause-back : goal.returns-clause-back
returns-clause-back c = ways-back

pub returns-clause-ahead : goal.returns-clause-ahead
returns-clause-ahead c = ways-ahead
