use Rattle.rl_session.proofs.Common.{◌≡◌, ◌∙◌, ◌==◌, [], ap, err_from_is_err_and, false, length, refl, subst, sym, true, Line, State, with_watch}
use Rattle.rl_record.specs.Undo.{Walks}
use Rattle.rl_session.proofs.Sessions.BytesLemmas.{parts, parts-saved}
use Rattle.rl_session.proofs.session.Session.read.Goals as goal

pub returns-in_err-line-clause-loaded : goal.returns-in_err-line-clause-loaded
returns-in_err-line-clause-loaded c s saved is =
    let p = err_from_is_err_and c.from_residual.result c.from_residual.ensures.1 in
    rw (p.1, p.2) (c.in_err-line.ensures.err s _ saved (c.new-bytes.ensures ∙ parts s c.args.inside.now is))

pub returns-in_err-ring-clause-loaded : goal.returns-in_err-ring-clause-loaded
returns-in_err-ring-clause-loaded c s saved is =
    let line = c.in_ok-line.ensures.ok s _ saved (c.new-bytes.ensures ∙ parts s c.args.inside.now is) in
    let p = err_from_is_err_and c.from_residual-in_err-ring.result c.from_residual-in_err-ring.ensures.1 in
    rw (p.1, p.2) (c.in_err-ring.ensures.loaded s.pair.ring _ saved.ring line.2).0

pub returns-in_err-changes-clause-loaded : goal.returns-in_err-changes-clause-loaded
returns-in_err-changes-clause-loaded c s saved is =
    let line = c.in_ok-line.ensures.ok s _ saved (c.new-bytes.ensures ∙ parts s c.args.inside.now is) in
    let ring = c.in_ok-ring.ensures.loaded s.pair.ring _ saved.ring line.2 in
    let p = err_from_is_err_and c.from_residual-in_err-changes.result c.from_residual-in_err-changes.ensures.1 in
    rw (p.1, p.2) (c.in_err-changes.ensures.loaded s.pair.changes [] saved.changes ring.1).0

pub returns-then-not-is_empty-clause-loaded : goal.returns-then-not-is_empty-clause-loaded
returns-then-not-is_empty-clause-loaded c s saved is =
    let line = c.in_ok-line.ensures.ok s _ saved (c.new-bytes.ensures ∙ parts s c.args.inside.now is) in
    let ring = c.in_ok-ring.ensures.loaded s.pair.ring _ saved.ring line.2 in
    let changes = c.in_ok-changes.ensures.loaded s.pair.changes [] saved.changes ring.1 in
    let rest : false ≡ true = sym c.if-not-is_empty.true ∙ c.is_empty.ensures ∙ ap (λ bytes. length bytes == 0) changes.1 in cc

pub returns-then-not-branch-clause-loaded : goal.returns-then-not-branch-clause-loaded
returns-then-not-branch-clause-loaded c s saved is =
    let line = c.in_ok-line.ensures.ok s _ saved (c.new-bytes.ensures ∙ parts s c.args.inside.now is) in
    let ring = c.in_ok-ring.ensures.loaded s.pair.ring _ saved.ring line.2 in
    let changes = c.in_ok-changes.ensures.loaded s.pair.changes [] saved.changes ring.1 in
    let walks = subst (λ (l : Line). Walks c.in_ok-changes.changes l.text) (sym line.0) (subst (λ r. Walks r s.line.text) (sym changes.0) saved.walks) in
    let astray : false ≡ true = sym c.if-not-branch.true ∙ c.in_ok-walks.ensures.ok.1 walks in cc

pub returns-clause-loaded : goal.returns-clause-loaded
returns-clause-loaded c s saved is =
    let line = c.in_ok-line.ensures.ok s _ saved (c.new-bytes.ensures ∙ parts s c.args.inside.now is) in
    let ring = c.in_ok-ring.ensures.loaded s.pair.ring _ saved.ring line.2 in
    let changes = c.in_ok-changes.ensures.loaded s.pair.changes [] saved.changes ring.1 in
    rw (line.0, ring.0, changes.0, c.new.ensures, line.1) refl

pub returns-clause-read : goal.returns-clause-read
returns-clause-read c =
    let s : State = record { line = c.in_ok-line.line; pair = record { ring = c.in_ok-ring.ring; changes = c.in_ok-changes.changes; watch = c.new.result }; options = c.in_ok-line.options } in
    let line = c.in_ok-line.ensures.read s refl refl in
    let ring = c.in_ok-ring.ensures.read in
    let changes = c.in_ok-changes.ensures.read in
    let stands = c.stands.ensures in (
      record {
        text = stands.utf8;
        cursor = stands.cursor;
        within = stands.within;
        grows_not = stands.grows_not;
        fits = line.1;
        prompt = line.2;
        walks = c.in_ok-walks.ensures.ok.0 c.if-not-branch.false;
        ring = ring.1;
        changes = changes.1;
      },
      sym c.new-bytes.ensures ∙ parts-saved s _ _ _ _ line.0 ring.0 changes.0 (sym c.is_empty.ensures ∙ c.if-not-is_empty.false),
      ap (λ watch. with_watch watch s) c.new.ensures,
    )
