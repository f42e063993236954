use Rattle.rl_record.proofs.Common.{Record, arith, bytes_held, subst, ◌≤◌}
use Rattle.rl_record.proofs.Records.ForgettingLemmas.{fits-counted}
use Rattle.rl_record.proofs.Records.TallyLemmas.{held-front}
use Rattle.rl_record.proofs.recent.Recent.is_known_to_fit.Goals as goal

pub returns : goal.returns
returns c = λ yes.
    let k = c.self.inside.gone in
    let es = c.self.inside.all.recorded in
    let all = subst (λ l. bytes_held l ≤ c.args.bytes) c.recorded.ensures (c.fits_with_last.ensures yes) in
    let left = subst (λ n. n ≤ c.args.bytes) (held-front k es c.self.invariant.ends) all in
    fits-counted c.args.most c.args.bytes c.args.self.now.recorded (omega (arith, c.if-len-most.false, c.len-len.ensures.len)) (subst (λ (r : Record). bytes_held r.recorded ≤ c.args.bytes) c.self.view_is left)
