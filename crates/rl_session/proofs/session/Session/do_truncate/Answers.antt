use Rattle.rl_session.proofs.Common.{◌≡◌, ◌≤◌, length, replays_to, rules, true}
use Rattle.rl_record.proofs.Records.WalkLemmas.{Walks-truncated}
use Rattle.rl_session.proofs.Sessions.SessionLemmas.{AtRest-changed, replays-all}
use Rattle.rl_session.proofs.session.Session.do_truncate.Goals as goal

pub invariant_of-self : goal.invariant_of-self
invariant_of-self c =
    let r = c.self.inside.pair.changes in let line = c.self.inside.line in
    let at = rw (← c.self.view_is) at c.stands.ensures.cursor in
    let all : length r.recorded ≤ c.args.len = search rules in
    AtRest-changed line c.self.inside.pair _ _ c.truncate.ensures (Walks-truncated c.args.len r line.text (replays-all c.args.len r line at all c.self.invariant.walks) c.self.invariant.walks) c.self.invariant

pub invariant_of-self-2 : goal.invariant_of-self-2
invariant_of-self-2 c =
    let r = c.self.inside.pair.changes in let line = c.self.inside.line in
    let leads : replays_to c.args.len r line.text ≡ true = search rules in
    AtRest-changed line c.self.inside.pair _ _ c.truncate-2.ensures (Walks-truncated c.args.len r line.text leads c.self.invariant.walks) c.self.invariant
