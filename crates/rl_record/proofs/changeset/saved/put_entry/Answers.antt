use Rattle.rl_record.proofs.Common.{All, IsUtf8, entry_of, err_from_is_err_and, subst, sym, ◌∙◌}
use Rattle.rl_base.specs.Saving.{Fits}
use Rattle.rl_base.specs.declared.saving.Width.TheVariants.{Four}
use Rattle.rl_record.proofs.Records.BytesLemmas.{IsSavedEntry-of, old-inverse}
use Rattle.rl_record.proofs.changeset.saved.put_entry.Goals as goal

pub returns-in_err-put_numbers-clause-err : goal.returns-in_err-put_numbers-clause-err
returns-in_err-put_numbers-clause-err c =
    let p = err_from_is_err_and c.from_residual.result c.from_residual.ensures.1 in
    rw (p.1, p.2) (λ long fits. (c.in_err-put_numbers.ensures.err long).1 (subst (All (Fits Four)) (sym c.numbers_of.ensures) fits))

pub returns-clause-loads : goal.returns-clause-loads
returns-clause-loads c =
    IsSavedEntry-of c.args.change.now (subst (All (Fits Four)) c.numbers_of.ensures c.in_ok-put_numbers.ensures.ok.1)
    (subst IsUtf8 c.texts.ensures.coming c.texts.ensures.utf8)
    (subst IsUtf8 (c.texts-2.ensures.coming ∙ old-inverse (entry_of c.args.change.now)) c.texts-2.ensures.utf8)
