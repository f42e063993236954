use Rattle.rl_record.proofs.Records.AbandonLemmas.{never_begun}
use Rattle.rl_record.proofs.laws.abandoned_group_was_never_begun.Goals as goal

pub returns : goal.returns
returns c = never_begun
