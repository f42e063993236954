use Rattle.rl_record.proofs.Common.{InsertChar}
use Rattle.rl_record.proofs.Records.LevelLemmas.{AtLevel-heard}
use Rattle.rl_record.proofs.changeset.Changeset.insert.Goals as goal

pub invariant_of-self-2 : goal.invariant_of-self-2
invariant_of-self-2 c = AtLevel-heard (InsertChar c.args.idx c.args.c) _ _ _ c.in_ok-insert_char.ensures.done c.self.invariant
