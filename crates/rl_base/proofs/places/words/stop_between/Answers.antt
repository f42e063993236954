use Rattle.rl_base.proofs.Common.{rules, ap, ◌∙◌, then_some}
use Rattle.rl_base.proofs.places.words.stop_between.Goals as goal

pub returns-in-BeforeEnd-Big : goal.returns-in-BeforeEnd-Big
returns-in-BeforeEnd-Big c x y h k =
    c.then_some-in-BeforeEnd-Big.ensures ∙ ap (λ b. then_some b c.args.place) (c.ends.ensures c.args.word x y h k) ∙ search rules

pub returns-in-AfterEnd-default : goal.returns-in-AfterEnd-default
returns-in-AfterEnd-default c x y h k =
    c.then_some-in-AfterEnd-default.ensures ∙ ap (λ b. then_some b c.args.start) (c.ends-in-AfterEnd-default.ensures c.args.word x y h k) ∙ search rules
