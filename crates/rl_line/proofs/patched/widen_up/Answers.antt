use Rattle.rl_line.proofs.Common.{IsUtf8, IsUtf8-append, subst, sym, ◌∙◌}
use Rattle.rl_line.proofs.Changes.ReachLemmas.{put_last}
use Rattle.rl_line.proofs.patched.widen_up.Goals as goal

pub returns-clause-utf8 : goal.returns-clause-utf8
returns-clause-utf8 c =
    subst IsUtf8 (sym (c.in_ok-insert.ensures.ok ∙ put_last c.args.part.now c.as_bytes.result.now c.size-size.result c.size-size.ensures))
    (IsUtf8-append c.args.part.now c.as_bytes.result.now c.requires.utf8 c.as_bytes.ensures.utf8)
