use Rattle.rl_record.proofs.Common.{Record, ap, arith, level, open_size, sym, ◌∙◌}
use Rattle.rl_record.proofs.Records.EntryLemmas.{made-none, made-some}
use Rattle.rl_record.proofs.changeset.Changeset.units_in_group.Goals as goal

pub returns-then-self-eq0 : goal.returns-then-self-eq0
returns-then-self-eq0 c = made-none c.args.most c.args.self.now.recorded (sym (c.self.invariant.level ∙ ap (λ (r : Record). level r.recorded) c.self.view_is) ∙ c.if-self-eq0.true)

pub returns : goal.returns
returns c =
    let depth = c.self.invariant.level ∙ ap (λ (r : Record). level r.recorded) c.self.view_is in
    made-some c.args.most c.open_size_to-size.result c.min.result c.args.self.now.recorded (omega (arith, depth, c.if-self-eq0.false))
    (omega (arith, c.open_size_to-size.ensures.same, ap open_size c.recorded.ensures.entries, c.from-limit.ensures))
    (omega (arith, c.min.ensures, c.saturating_sub.ensures, c.from-limit.ensures))
