use Rattle.rl_record.proofs.Common.{StandsAt, arith, entry_of, length-map, rules, subst, sym}
use Rattle.rl_record.proofs.Records.ForgettingLemmas.{dropped-first, removed-front}
use Rattle.rl_record.proofs.Records.FrontLemmas.{Ends-within, count-front}
use Rattle.rl_record.proofs.Records.PointLemmas.{stands-past}
use Rattle.rl_record.proofs.entries.Entries.drop_first.Goals as goal

pub returns-then-count-gt0 : goal.returns-then-count-gt0
returns-then-count-gt0 c =
    (dropped-first c.self.inside.recorded c.args.count c.args.self.now _ _ c.self.inside.fresh c.self.inside.saved (omega (arith, c.self.invariant.0, length-map c.self.inside.list.items entry_of)) c.self.view_is
    (Ends-within c.args.count c.args.self.now.recorded c.requires) (removed-front c.args.count c.self.inside.list.items _ (search rules))).1

pub invariant_of-self : goal.invariant_of-self
invariant_of-self c =
    let e = dropped-first c.self.inside.recorded c.args.count c.args.self.now _ _ c.self.inside.fresh c.self.inside.saved (omega (arith, c.self.invariant.0, length-map c.self.inside.list.items entry_of)) c.self.view_is
    (Ends-within c.args.count c.args.self.now.recorded c.requires) (removed-front c.args.count c.self.inside.list.items _ (search rules)) in (
      omega (arith, e.0, length-map c.drop-drain.new.self.0.items entry_of),
      subst (StandsAt c.self.inside.changes) (sym e.1)
          (stands-past c.self.inside.changes c.args.count c.args.self.now (sym (count-front c.args.count c.args.self.now.recorded c.requires)) (subst (StandsAt c.self.inside.changes) c.self.view_is c.self.invariant.1)),
    )
