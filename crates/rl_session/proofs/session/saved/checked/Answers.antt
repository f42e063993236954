use Rattle.rl_session.proofs.Common.{◌∙◌, ap, sym}
use Rattle.std.specs.Cmp.Lexicographic.{other_text}
use Rattle.rl_session.specs.SavedSession.{checksum}
use Rattle.rl_session.proofs.Sessions.BytesLemmas.{checked-parts}
use Rattle.rl_session.proofs.session.saved.checked.Goals as goal

pub returns-clause-none : goal.returns-clause-none
returns-clause-none c = λ none front is.
    let whole = checked-parts c.args.bytes.now front is in
    other_text c.as_slice.result.now c.split_at.result.1.now (sym c.if-eq.false ∙ c.eq.ensures)
    (c.as_slice.ensures ∙ c.checksum.ensures ∙ ap checksum (c.split_at.ensures.front ∙ whole.1) ∙ sym whole.2 ∙ sym c.split_at.ensures.back)
