use Rattle.rl_session.proofs.Common.{◌++◌}
use Rattle.rl_session.specs.SavedSession.{heading, sealed}
use Rattle.rl_session.proofs.Sessions.BytesLemmas.{checked-one}
use Rattle.rl_session.proofs.session.saved.unsealed.Goals as goal

pub returns-clause-none : goal.returns-clause-none
unfolding sealed
returns-clause-none c = λ none inside is. c.after_heading.ensures.none none inside (checked-one c.args.bytes.now c.in_ok-checked.field-0.now (heading ++ inside) c.in_ok-checked.ensures.some is)
