use Rattle.rl_session.proofs.Common.{◌∙◌, ◌∷◌, ◌++◌, ◌<◌, ◌^◌, [], All, Line, ap, append_assoc, err_from_is_err_and, get_or, length, ◌≤◌, option_map, refl, same_Some, subst, sym}
use Rattle.rl_base.specs.Saving.{Fits, numbers}
use Rattle.rl_base.specs.declared.saving.Width.TheVariants.{Eight}
use Rattle.rl_session.specs.SavedSession.{line_numbers, option_numbers, saved_line, state_numbers}
use Rattle.rl_session.specs.declared.options.Options.{Options}
use Rattle.rl_session.proofs.Sessions.BytesLemmas.{line-saved, numbers-read}
use Rattle.rl_session.proofs.session.saved.read_line.Goals as goal

pub returns-in_err-line-clause-err : goal.returns-in_err-line-clause-err
unfolding saved_line
returns-in_err-line-clause-err c =
    let p = err_from_is_err_and c.from_residual.result c.from_residual.ensures.1 in
    rw (p.1, p.2) (λ s rest saved is.
    let read = c.numbers.ensures.loaded (state_numbers s) (s.line.text ++ rest) refl saved.fits (is ∙ append_assoc (numbers Eight (state_numbers s)) s.line.text rest) in
    let text = c.text.ensures.loaded s.line.text rest (sym (ap (λ h. get_or h 8 0) read.1)) saved.text read.2 in
    let same = same_Some _ _ (sym (ap (option_map (λ found. found.now)) c.in-Some.is) ∙ text.0) in
    c.in_err-line.ensures.err s.line _ saved.grows_not saved.cursor (subst (λ t. length t ≤ s.line.limit) (sym same) saved.within) read.1 same)

pub returns-clause-ok : goal.returns-clause-ok
unfolding saved_line
returns-clause-ok c s rest saved is =
    let read = c.numbers.ensures.loaded (state_numbers s) (s.line.text ++ rest) refl saved.fits (is ∙ append_assoc (numbers Eight (state_numbers s)) s.line.text rest) in
    let text = c.text.ensures.loaded s.line.text rest (sym (ap (λ h. get_or h 8 0) read.1)) saved.text read.2 in
    let same = same_Some _ _ (sym (ap (option_map (λ found. found.now)) c.in-Some.is) ∙ text.0) in
    let options = c.options_of.ensures.loaded s.options s.line (length s.line.text ∷ []) saved.prompt read.1 in
    (c.in_ok-line.ensures.ok s.line _ saved.grows_not (subst (λ t. length t ≤ s.line.limit) (sym same) saved.within) read.1 same, same_Some _ _ (sym c.in-Some-options_of.is ∙ options), text.1)

pub returns-clause-read : goal.returns-clause-read
returns-clause-read c s line options =
    let head = c.numbers.ensures.read c.if-not-numbers.false in
    let text = c.in-Some.ensures.read in
    let made = c.in_ok-line.ensures.read in
    let chosen = c.in-Some-options_of.ensures.read in
    let text_is = ap (λ (l : Line). l.text) line ∙ made.1 in
    let numbers_are = numbers-read _ s c.numbers.ensures.len (ap line_numbers line ∙ made.0) (ap option_numbers options ∙ chosen.0) (ap length text_is ∙ text.1) in (
      line-saved s _ _ _ _ _ head.0 text.0 numbers_are text_is,
      subst (All (Fits Eight)) (sym numbers_are) head.1,
      subst (λ (o : Options). o.prompt < 2 ^ 16) (sym options) chosen.1,
    )
