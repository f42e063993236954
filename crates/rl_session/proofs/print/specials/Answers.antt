use Rattle.rl_session.proofs.Common.{true, false, refl, arith, zip2_splat, is_special}
use Rattle.rl_session.proofs.Scripts.LaneLemmas.{hit, either, masked}
use Rattle.rl_session.proofs.print.specials.Goals as goal

pub returns-then-spaces : goal.returns-then-spaces
returns-then-spaces c =
    let v = c.args.bytes in
    let long = c.fits-bytes.0 in
    rw c.if-spaces.true
    (masked _ (is_special true) v _ (omega arith) c.fits-bytes.1
    (either _ _ v (either _ _ v (either _ _ v (either _ _ v (zip2_splat hit v 16 92 long) (zip2_splat hit v 16 10 long)) (zip2_splat hit v 16 13 long)) (zip2_splat hit v 16 9 long)) (zip2_splat hit v 16 32 long)) refl)

pub returns : goal.returns
returns c =
    let v = c.args.bytes in
    let long = c.fits-bytes.0 in
    rw c.if-spaces.false
    (masked _ (is_special false) v _ (omega arith) c.fits-bytes.1
    (either _ _ v (either _ _ v (either _ _ v (zip2_splat hit v 16 92 long) (zip2_splat hit v 16 10 long)) (zip2_splat hit v 16 13 long)) (zip2_splat hit v 16 9 long)) refl)
