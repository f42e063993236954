use Rattle.rl_base.specs.KillRing.{yank_pop}
use Rattle.rl_session.proofs.Common.{◌∙◌, ap, refl, sym, Ring, State, room_by_step, with_ring}
use Rattle.rl_session.proofs.Sessions.IdleLemmas.{NoneStarts-popped, Outcome-beside, idle-popped}
use Rattle.rl_session.proofs.Sessions.ReplyLemmas.{Pop-replied, told-returned}
use Rattle.rl_session.proofs.Sessions.SessionLemmas.{AtRest-edit}
use Rattle.rl_session.proofs.session.Session.do_yank_pop.Goals as goal

pub invariant_of-self : goal.invariant_of-self
invariant_of-self c =
    let out = rw c.replace-ring.ensures.value at c.pop_into-outcome.ensures in
    let empty = ap (λ (k : Ring). k.killing) (c.replace-ring.ensures.after ∙ c.new.ensures) in
    let heard = AtRest-edit room_by_step _ _ _ c.self.inside.line _ _ (rw (← c.self.view_is) at c.stands.ensures.cursor) (NoneStarts-popped c.self.inside.line (yank_pop c.self.inside.pair.ring)) out.line (record { walks = c.self.invariant.walks; idle = empty; grows_not = c.self.invariant.grows_not }) in
    record { walks = heard.walks; idle = idle-popped c.self.inside.pair.ring _ out.ring c.self.invariant.idle; grows_not = heard.grows_not }

pub returns : goal.returns
returns c =
    let old : State = record { line = c.self.inside.line; pair = c.self.inside.pair; options = c.self.inside.options } in
    let now = c.pop_into-outcome.new in
    let new : State = record { line = now.line; pair = record now.pair { ring = now.ring }; options = old.options } in
    let out = rw c.replace-ring.ensures.value at c.pop_into-outcome.ensures in
    let empty = ap (λ (k : Ring). k.killing) (c.replace-ring.ensures.after ∙ c.new.ensures) in
    let heard = Outcome-beside now.ring (idle-popped old.pair.ring _ out.ring c.self.invariant.idle) _ old.line now.line _ now.pair _ (NoneStarts-popped old.line (yank_pop old.pair.ring)) empty out.line in
    rw (← c.self.view_is) (Pop-replied (with_ring now.ring old) old new _ (ap (λ k. with_ring k old) (sym out.ring)) (rw (← c.self.view_is) at c.stands_yanked.ensures.yes c.if-not-stands_yanked.false) (told-returned _ _ _ c.map_err.ensures.cases) refl heard)
