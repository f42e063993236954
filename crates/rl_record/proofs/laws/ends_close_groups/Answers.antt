use Rattle.rl_record.proofs.Common.{End, IsMatched, [], append_assoc, subst, sym, ◌++◌, ◌∷◌}
use Rattle.rl_record.proofs.Records.GroupLemmas.{group_at}
use Rattle.rl_record.proofs.Records.UnitLemmas.{IsMatched-front}
use Rattle.rl_record.proofs.laws.ends_close_groups.Goals as goal

pub returns : goal.returns
returns c = λ xs ys h. group_at xs (IsMatched-front (xs ++ (End ∷ [])) ys (subst IsMatched (sym (append_assoc xs (End ∷ []) ys)) h))
