use Rattle.rl_record.proofs.Common.{All, Record, err_from_is_err_and, subst, sym, ◌++◌}
use Rattle.rl_record.specs.SavedRecord.{FitsEntry}
use Rattle.rl_record.proofs.changeset.Changeset.save.Goals as goal

pub returns-in_err-put_entries-clause-err : goal.returns-in_err-put_entries-clause-err
returns-in_err-put_entries-clause-err c =
    let p = err_from_is_err_and c.from_residual-in_err-put_entries.result c.from_residual-in_err-put_entries.ensures.1 in
    rw (p.1, p.2) (λ long all. c.in_err-put_entries.ensures.err long (subst (All FitsEntry) (sym c.all.ensures) (subst (λ (r : Record). All FitsEntry (r.recorded ++ r.pending)) (sym c.self.view_is) all)))
