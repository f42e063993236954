use Rattle.rl_session.proofs.Common.{rules}
use Rattle.rl_session.proofs.session.Session.do_set_pos.Goals as goal

pub returns-else-is_char_boundary : goal.returns-else-is_char_boundary
returns-else-is_char_boundary c = search rules
