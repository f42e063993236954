use Rattle.std.specs.Prelude.{◌+◌, min}
use Rattle.rl_session.proofs.Common.{ap, ◌∙◌}
use Rattle.rl_session.proofs.Sessions.BytesLemmas.{session-length}
use Rattle.rl_session.proofs.session.Session.saved_len.Goals as goal

pub returns : goal.returns
returns c =
    let text = c.saturating_add.ensures ∙ ap (λ n. min (c.saturating_add-parts.result + n) 18446744073709551615) c.len.ensures.len in
    rw (← c.self.view_is)
    (session-length (record { line = c.self.inside.line; pair = c.self.inside.pair; options = c.self.inside.options }) _ _ _ _ _
    c.saved_len.ensures c.saved_len-2.ensures c.saturating_add-parts.ensures text c.saturating_add-2.ensures)
