use Rattle.rl_record.proofs.Common.{IsMatched, entry_of, map, subst, sym}
use Rattle.rl_record.proofs.Records.LevelLemmas.{IsMatched-last}
use Rattle.rl_record.proofs.Records.MatchLemmas.{Redoes-of}
use Rattle.rl_record.proofs.changeset.Changeset.unit.Goals as goal

pub returns-in-Back-clause-matched : goal.returns-in-Back-clause-matched
returns-in-Back-clause-matched c = subst IsMatched (sym c.last_units.ensures) (IsMatched-last c.args.n (map entry_of c.recorded.result.now) c.recorded.ensures.matched)

pub returns-in-Ahead-clause-matched : goal.returns-in-Ahead-clause-matched
returns-in-Ahead-clause-matched c = subst IsMatched (sym c.next_unit.ensures) (Redoes-of (map entry_of c.pending.result.now) c.pending.ensures.matched).unit_matched
