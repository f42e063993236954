use Rattle.rl_session.proofs.Common.{◌∙◌, ap, sym, subst, refl, IsCharBoundary-start, IsCharBoundary, Line}
use Rattle.rl_session.proofs.Sessions.RestartLemmas.{Kept, Renewed}
use Rattle.rl_session.proofs.session.opening.renew.Goals as goal

pub replace-requires-clause-start : goal.replace-requires-clause-start
replace-requires-clause-start c = IsCharBoundary-start c.args.line.now.text c.pos-pos.ensures.utf8

pub set_pos-requires : goal.set_pos-requires
set_pos-requires c =
    let renewed = Renewed c.args.line.now c.replace.new.self c.args.watch.now c.replace.new.listener c.args.text.now c.len-end.result _ c.len-end.ensures.len c.pos-pos.ensures.utf8 c.utf8.text c.in-Ok.ensures in
    subst (λ (l : Line). IsCharBoundary l.text c.args.pos) (sym renewed.0) c.requires

pub returns-in-Ok : goal.returns-in-Ok
returns-in-Ok c =
    let renewed = Renewed c.args.line.now c.replace.new.self c.args.watch.now c.replace.new.listener c.args.text.now c.len-end.result _ c.len-end.ensures.len c.pos-pos.ensures.utf8 c.utf8.text c.in-Ok.ensures in
    record { line = c.set_pos.ensures ∙ ap (λ (l : Line). record l { cursor = c.args.pos }) renewed.0; told = renewed.1; err = tt; kept = tt }

pub returns-in-Err : goal.returns-in-Err
returns-in-Err c =
    let kept = Kept c.args.line.now c.replace.new.self c.args.watch.now c.replace.new.listener c.args.text.now c.len-end.result c.in-Err.field-0 c.len-end.ensures.len c.in-Err.ensures in
    record { line = tt; told = tt; err = (refl, kept.0); kept = (kept.1, kept.2) }
