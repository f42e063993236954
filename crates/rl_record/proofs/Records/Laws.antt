-- The lemmas that are the laws of the record.
use Rattle.rl_line.proofs.Changes.BackLemmas.{line_ahead-replay, line_back-unwind}
use Rattle.rl_line.proofs.Changes.GoingLemmas.{after-steps_ahead, after-steps_back}
use Rattle.rl_line.proofs.Changes.InverseLemmas.{replay-unwind, unwind-replay}
use Rattle.rl_record.proofs.Records.AbandonLemmas.{saved-abandoned}
use Rattle.rl_record.proofs.Records.EndLemmas.{alone-answer, alone-level, alone-nothing, alone-unit, reopened-end}
use Rattle.rl_record.proofs.Records.ForgettingLemmas.{fitting-stay, gone-kept, gone-level, gone-matched, group-stays, left-fits, left-replays, saved-forgotten}
use Rattle.rl_record.proofs.Records.GroupLemmas.{group-empty, group-empty-end}
use Rattle.rl_record.proofs.Records.PartLemmas.{parted-adds, parted-stays}
use Rattle.rl_record.proofs.Records.RedoLemmas.{Redos-lead, redos-give-back}
use Rattle.rl_record.proofs.Records.RoundLemmas.{saved-kept, undos-lead, undos-lead_above, undos-pass}
use Rattle.rl_record.proofs.Records.SavePointLemmas.{saved-back, saved-begun, saved-closed, saved-marked, saved-parted, saved-redone, saved-reopened, saved-replays, saved-step, saved-there, saved-truncated, saved-undone}
use Rattle.rl_record.proofs.Records.UnitLawLemmas.{heard-none, heard-stays}
use Rattle.rl_record.proofs.Records.WalkLemmas.{ways-ahead, ways-back}

pub ruleset laws = (Redos-lead, after-steps_ahead, after-steps_back, alone-answer, alone-level, alone-nothing, alone-unit, fitting-stay, gone-kept, gone-level, gone-matched, group-empty, group-empty-end, group-stays, heard-none, heard-stays, left-fits, left-replays, line_ahead-replay, line_back-unwind, parted-adds, parted-stays, redos-give-back, reopened-end, replay-unwind, saved-abandoned, saved-back, saved-begun, saved-closed, saved-forgotten, saved-kept, saved-marked, saved-parted, saved-redone, saved-reopened, saved-replays, saved-step, saved-there, saved-truncated, saved-undone, undos-lead, undos-lead_above, undos-pass, unwind-replay, ways-ahead, ways-back)
