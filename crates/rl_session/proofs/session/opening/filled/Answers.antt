use Rattle.rl_session.proofs.Common.{sym, ap, subst, append-nil, ◌∙◌, insert_slice, IsCharBoundary, IsCharBoundary-start, Line}
use Rattle.rl_session.proofs.Sessions.SessionLemmas.{put_first}
use Rattle.rl_session.proofs.session.opening.filled.Goals as goal

pub insert_str-requires-clause-stays : goal.insert_str-requires-clause-stays
insert_str-requires-clause-stays c =
    subst (λ (l : Line). IsCharBoundary (insert_slice l.text 0 c.args.text.now) l.cursor) (sym c.requires.empty)
    (subst (λ t. IsCharBoundary t 0) (sym (append-nil c.args.text.now)) (IsCharBoundary-start c.args.text.now c.utf8.text))

pub set_pos-requires : goal.set_pos-requires
set_pos-requires c =
    subst (λ (l : Line). IsCharBoundary l.text c.args.pos) (sym (put_first _ _ _ _ c.args.text.now _ _ _ c.utf8.text c.requires.empty c.in-Ok.ensures)) c.requires.place

pub returns-in-Ok-clause-ok : goal.returns-in-Ok-clause-ok
returns-in-Ok-clause-ok c =
    c.set_pos.ensures ∙ ap (λ (l : Line). record l { cursor = c.args.pos })
    (put_first _ _ _ _ c.args.text.now _ _ _ c.utf8.text c.requires.empty c.in-Ok.ensures)
