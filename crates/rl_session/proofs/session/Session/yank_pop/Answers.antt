use Rattle.rl_session.proofs.Common.{ap, refl, ◌∙◌}
use Rattle.rl_record.specs.Units.{unit_start}
use Rattle.rl_session.proofs.Sessions.PerformLemmas.{done_as_unit}
use Rattle.rl_session.specs.declared.session.Command.TheVariants.{YankPop}
use Rattle.rl_session.proofs.session.Session.yank_pop.Goals as goal

pub returns : goal.returns
returns c = done_as_unit YankPop _ c.keep_first.new.self c.keep_first.new.self c.set_apart-start.new.self c.do_yank_pop-done.new.self c.settle_yank.new.self c.unite.new.self c.forget.new.self _ c.set_apart-start.result c.forget.ensures c.unite.ensures.united c.unite.ensures.before c.do_yank_pop-done.ensures c.settle_yank.ensures.pop c.set_apart-start.ensures.apart (c.set_apart-start.ensures.start ∙ ap (λ n. unit_start n c.keep_first.new.self.pair.changes) c.yanked_len-yanked.ensures) refl c.in_ok-keep_first.ensures.ok (c.yank_pop_is_too_long.ensures.no c.if-yank_pop_is_too_long.false) refl
