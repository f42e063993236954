use Rattle.rl_session.proofs.Common.{refl}
use Rattle.rl_session.specs.declared.session.Command.TheVariants.{Insert}
use Rattle.rl_session.proofs.Sessions.StepLemmas.{step_done}
use Rattle.rl_session.proofs.session.Session.do_command.Goals as goal

pub returns-in-Insert : goal.returns-in-Insert
returns-in-Insert c = rw (c.in-Insert.is) (step_done (Insert c.in-Insert.c c.in-Insert.n) _ c.reset_ring.ensures (rw (c.inserted-reply.ensures) c.do_insert.ensures) refl c.ends.ensures)
