use Rattle.rl_session.proofs.Common.{All, subst}
use Rattle.rl_base.specs.Saving.{Fits}
use Rattle.rl_base.specs.declared.saving.Width.TheVariants.{Eight}
use Rattle.rl_session.proofs.session.Session.put_line.Goals as goal

pub returns-clause-fits : goal.returns-clause-fits
returns-clause-fits c = subst (All (Fits Eight)) c.numbers.ensures.numbers c.in_ok-put_numbers.ensures.ok.1
