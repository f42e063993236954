use Rattle.rl_line.proofs.Common.{IsUtf8, IsUtf8-append, subst, sym}
use Rattle.rl_line.proofs.patched.widen_down.Goals as goal

pub returns-clause-utf8 : goal.returns-clause-utf8
returns-clause-utf8 c = subst IsUtf8 (sym c.in_ok-insert.ensures.ok) (IsUtf8-append c.as_bytes.result.now c.args.part.now c.as_bytes.ensures.utf8 c.requires.utf8)
