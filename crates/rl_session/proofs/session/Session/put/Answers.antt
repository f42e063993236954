use Rattle.rl_session.proofs.Common.{◌++◌, All, err_from_is_err_and, subst, sym}
use Rattle.rl_record.specs.SavedRecord.{FitsEntry}
use Rattle.rl_session.specs.State.{State}
use Rattle.rl_session.proofs.session.Session.put.Goals as goal

pub returns-in_err-save-2-clause-err : goal.returns-in_err-save-2-clause-err
returns-in_err-save-2-clause-err c =
    let p = err_from_is_err_and c.from_residual-in_err-save-2.result c.from_residual-in_err-save-2.ensures.1 in
    rw (p.1, p.2) (λ long fits.
    c.in_err-save-2.ensures.err long (subst (λ (s : State). All FitsEntry (s.pair.changes.recorded ++ s.pair.changes.pending)) (sym c.self.view_is) fits.entries))
