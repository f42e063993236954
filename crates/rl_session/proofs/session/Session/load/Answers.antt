use Rattle.std.proofs.lemmas.Result.{IfOk-weaker}
use Rattle.rl_session.proofs.Common.{◌∙◌, ap}
use Rattle.rl_session.specs.SavedSession.{saved_state, sealed}
use Rattle.rl_session.proofs.Sessions.BytesLemmas.{sealed-begins, sealed-one}
use Rattle.rl_session.proofs.session.Session.load.Goals as goal

pub returns-in_default-clause-loaded : goal.returns-in_default-clause-loaded
returns-in_default-clause-loaded c s saved is =
    let begins = sealed-begins c.args.bytes.now (saved_state s) is in
    absurd (c.after_heading.ensures.none c.in_default.is begins.0 begins.1)

pub returns-clause-loaded : goal.returns-clause-loaded
returns-clause-loaded c s saved is = c.read.ensures.loaded s saved (sealed-one c.args.bytes.now c.in-Some-unsealed.inside.now (saved_state s) c.in-Some-unsealed.ensures.some is)

pub returns-clause-read : goal.returns-clause-read
returns-clause-read c = IfOk-weaker c.read.result _ _ (λ s r. (r.0, c.in-Some-unsealed.ensures.some ∙ ap sealed r.1, r.2)) c.read.ensures.read
