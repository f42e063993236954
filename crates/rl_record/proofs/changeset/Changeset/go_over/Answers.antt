use Rattle.rl_record.proofs.Common.{AtLevel, ap, entry_of, false, has_change, length, moved, subst, sym, ◌||◌, ◌∙◌, ◌≡◌}
use Rattle.rl_record.proofs.Records.LevelLemmas.{AtLevel-one}
use Rattle.rl_record.proofs.Records.MoveLemmas.{GoesAs-one, GoesOver-of, changes-over, changes-reach, moved-at}
use Rattle.rl_record.proofs.Records.PointLemmas.{one-change}
use Rattle.rl_record.proofs.changeset.Changeset.go_over.Given.{Over}
use Rattle.rl_record.proofs.changeset.Changeset.go_over.Goals.{After-cut}
use Rattle.rl_record.proofs.changeset.Changeset.go_over.Goals as goal

now : (g : Over) (c : After-cut g) → c.cut.new.self ≡ moved c.args.way c.args.n c.args.self.now
now g c =
    moved-at c.args.way c.args.n c.len-len.result 1 c.count_over-recorded.result c.self.inside.entries c.args.self.now c.cut.new.self c.self.view_is c.self.invariant.matched c.len-len.ensures.len
    (sym (ap length c.in-Some.ensures.1)) c.count_over-recorded.ensures c.cut.ensures

pub invariant_of-self : goal.invariant_of-self
invariant_of-self g c =
    subst (AtLevel c.self.inside.level) (sym (now g (goal.at.invariant_of-self g c).After-cut))
    (AtLevel-one c.args.way c.args.n c.self.inside.level c.args.self.now _ c.in-Some.ensures.0 c.in-Some.ensures.1 (subst (AtLevel c.self.inside.level) c.self.view_is c.self.invariant))

pub returns-in-Some-clause-done : goal.returns-in-Some-clause-done
returns-in-Some-clause-done g c =
    GoesOver-of c.args.way c.args.n c.args.self.now _ c.args.line.now _ _
    (sym ((GoesAs-one c.args.way c.in-Some.change.now _ c.in-Some.ensures.1).line c.args.line.now) ∙ c.in_ok-go_over_one.ensures.ok) (now g (goal.at.returns-in-Some-clause-done g c).After-cut)
    (sym (ap has_change c.in-Some.ensures.1 ∙ ap (λ b. b || false) c.in-Some.ensures.0))

pub count_over-changes-requires : goal.count_over-changes-requires
count_over-changes-requires g c =
    changes-reach c.args.way c.args.n _ 1 c.self.inside.entries c.args.self.now c.self.view_is c.self.invariant.matched c.len-len.ensures.small c.changes.ensures
    (one-change (entry_of c.in-Some.change.now) _ c.in-Some.ensures.0 c.in-Some.ensures.1)

pub cut-requires-clause-counted : goal.cut-requires-clause-counted
cut-requires-clause-counted g c =
    changes-over c.args.way c.args.n c.len-len.result 1 c.count_over-recorded.result _ 1 _ c.self.inside.entries c.args.self.now c.self.view_is c.self.invariant.matched c.len-len.ensures.len
    (sym (ap length c.in-Some.ensures.1)) c.count_over-recorded.ensures c.changes.ensures (one-change (entry_of c.in-Some.change.now) _ c.in-Some.ensures.0 c.in-Some.ensures.1) c.count_over-changes.ensures
