use Rattle.rl_record.proofs.Records.ForgettingLemmas.{left-replays}
use Rattle.rl_line.proofs.Changes.InverseLemmas.{replay-IsUtf8}
use Rattle.rl_session.proofs.Common.{gone}
use Rattle.rl_session.proofs.Runs.CallLemmas.{changed-forgets, reported-forgets}
use Rattle.rl_session.proofs.session.forgetting.what_is_left_replays.Goals as goal

pub returns-clause-replays : goal.returns-clause-replays
returns-clause-replays c = λ start s from.
    let es = s.pair.changes.recorded in
    let bound = s.options.bound in
    let left = left-replays bound.entries bound.bytes es start s.line.text from.leads in
    record {
      begin = left.0;
      made = left.1;
      replays = record { is_text = replay-IsUtf8 (gone s) start left.0 from.is_text left.1; leads = left.2 };
    }

pub returns-clause-changed : goal.returns-clause-changed
returns-clause-changed c = changed-forgets

pub returns-clause-reported : goal.returns-clause-reported
returns-clause-reported c = reported-forgets
