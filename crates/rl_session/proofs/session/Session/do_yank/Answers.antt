use Rattle.rl_base.specs.KillRing.{yank}
use Rattle.rl_session.proofs.Common.{◌∙◌, ap, refl, sym, Ring, State, room_by_step, with_ring}
use Rattle.rl_session.proofs.Sessions.IdleLemmas.{NoneStarts-lent, Outcome-beside, idle-yanked}
use Rattle.rl_session.proofs.Sessions.ReplyLemmas.{Yank-replied, told-returned}
use Rattle.rl_session.proofs.Sessions.SessionLemmas.{AtRest-edit}
use Rattle.rl_session.proofs.session.Session.do_yank.Goals as goal

pub invariant_of-self : goal.invariant_of-self
invariant_of-self c =
    let out = rw c.replace-ring.ensures.value at c.yank_into-outcome.ensures in
    let empty = ap (λ (k : Ring). k.killing) (c.replace-ring.ensures.after ∙ c.new.ensures) in
    let heard = AtRest-edit room_by_step _ _ _ c.self.inside.line _ _ (rw (← c.self.view_is) at c.stands.ensures.cursor) (NoneStarts-lent c.self.inside.line (yank c.self.inside.pair.ring) c.args.n) out.line (record { walks = c.self.invariant.walks; idle = empty; grows_not = c.self.invariant.grows_not }) in
    record { walks = heard.walks; idle = idle-yanked c.self.inside.pair.ring _ out.ring c.self.invariant.idle; grows_not = heard.grows_not }

pub returns : goal.returns
returns c =
    let old : State = record { line = c.self.inside.line; pair = c.self.inside.pair; options = c.self.inside.options } in
    let now = c.yank_into-outcome.new in
    let new : State = record { line = now.line; pair = record now.pair { ring = now.ring }; options = old.options } in
    let out = rw c.replace-ring.ensures.value at c.yank_into-outcome.ensures in
    let empty = ap (λ (k : Ring). k.killing) (c.replace-ring.ensures.after ∙ c.new.ensures) in
    let heard = Outcome-beside now.ring (idle-yanked old.pair.ring _ out.ring c.self.invariant.idle) _ old.line now.line _ now.pair _ (NoneStarts-lent old.line (yank old.pair.ring) c.args.n) empty out.line in
    rw (← c.self.view_is) (Yank-replied c.args.n (with_ring now.ring old) old new _ (ap (λ k. with_ring k old) (sym out.ring)) (told-returned _ _ _ c.map_err.ensures.cases) refl heard)
