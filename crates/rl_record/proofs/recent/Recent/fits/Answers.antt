use Rattle.rl_record.proofs.Common.{Record, ap, arith, bytes_held, fits, length, length-drop, nat_le, refl, sym, ◌∙◌}
use Rattle.rl_record.proofs.Records.TallyLemmas.{fits-bytes, front-len}
use Rattle.rl_record.proofs.recent.Recent.fits.Goals as goal

pub returns-clause-answer : goal.returns-clause-answer
returns-clause-answer c =
    let k = c.self.inside.gone in
    let es = c.self.inside.all.recorded in
    c.hold_at_most.ensures.answer ∙ ap (λ l. nat_le (bytes_held l) c.args.bytes) c.recorded.ensures
    ∙ sym (fits-bytes c.args.most c.args.bytes k es c.self.invariant.ends
    (omega (arith, c.if-len-most.false, c.len-len.ensures.len, length-drop k es, front-len k (length es) c.self.inside.all c.args.self.now c.self.view_is refl)) (omega (arith, c.if-bytes-eq18446744073709551615.false, c.ranges.bytes)))
    ∙ ap (λ (r : Record). fits c.args.most c.args.bytes r.recorded) c.self.view_is
