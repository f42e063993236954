use Rattle.rl_record.proofs.Common.{End, FrontGone, Record, ap, arith, bytes_held, length, refl, set, subst, sym, take, ◌+◌, ◌<◌, ◌∙◌}
use Rattle.rl_record.proofs.Records.TallyLemmas.{front-len, gone-next, gone-view}
use Rattle.rl_record.proofs.recent.Recent.drop_one.Goals as goal

pub invariant_of-self : goal.invariant_of-self
invariant_of-self c =
    let k = c.self.inside.gone in
    let es = c.self.inside.all.recorded in
    let some : k < length es = omega (arith, c.requires, front-len k (length es) c.self.inside.all c.args.self.now c.self.view_is refl) in
    subst (λ (r : Record). FrontGone (k + 1) c.without-self-inside.result r.recorded) (sym c.blank.ensures)
    (gone-next k c.self.inside.tally c.without-self-inside.result es c.self.invariant some c.without-self-inside.ensures.counted c.without-self-inside.ensures.opened
    (ap (λ l. bytes_held (take c.self.inside.tally.counted (set l k End))) (sym c.recorded.ensures) ∙ c.without-self-inside.ensures.held))

pub returns : goal.returns
returns c =
    gone-view c.self.inside.gone c.self.inside.all _ c.args.self.now c.self.view_is
    (omega (arith, c.requires, front-len c.self.inside.gone (length c.self.inside.all.recorded) c.self.inside.all c.args.self.now c.self.view_is refl)) c.blank.ensures
