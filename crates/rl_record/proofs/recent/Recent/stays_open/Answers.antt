use Rattle.rl_record.proofs.Common.{ap, oldest_is_open, sym, take, units, ◌-◌, ◌∙◌}
use Rattle.rl_record.proofs.Records.TallyLemmas.{open-kept}
use Rattle.rl_record.proofs.recent.Recent.stays_open.Goals as goal

pub returns : goal.returns
returns c = λ yes.
    let t = c.self.inside.tally in
    let k = c.self.inside.gone in
    sym (ap (λ es. oldest_is_open (units es)) c.recorded.ensures)
    ∙ c.stays_open.ensures yes (ap (λ es. oldest_is_open (units (take (t.opened - k) es))) c.recorded.ensures ∙ open-kept k t c.self.inside.all c.args.self.now c.self.invariant c.self.view_is c.if-self.false)
