use Rattle.rl_record.proofs.Common.{Begin, StandsAt, [], arith, subst, sym, ◌++◌, ◌∷◌}
use Rattle.rl_record.proofs.Records.PointLemmas.{changes-begin, stands-waiting}
use Rattle.rl_record.proofs.Records.WaitingLemmas.{opened-view}
use Rattle.rl_record.proofs.entries.Entries.open_group.Goals as goal

pub returns-clause-done : goal.returns-clause-done
returns-clause-done c =
    opened-view c.self.inside.recorded c.self.inside.changes c.self.inside.list.items c.insert.new.self.items c.self.inside.fresh _ c.self.inside.saved c.args.self.now c.self.view_is c.self.invariant.0
    c.in_ok-insert.ensures.items (subst (StandsAt c.self.inside.changes) c.self.view_is c.self.invariant.1).counted c.freshness_at-self-inside.ensures

pub invariant_of-self-2 : goal.invariant_of-self-2
invariant_of-self-2 c =
    let s = subst (StandsAt c.self.inside.changes) c.self.view_is c.self.invariant.1 in (
      omega (arith, c.self.invariant.0, c.in_ok-insert.ensures.len, c.insert.new.self.ok.0, c.self.inside.list.ok.0),
      subst (StandsAt c.self.inside.changes)
          (sym (opened-view c.self.inside.recorded c.self.inside.changes c.self.inside.list.items c.insert.new.self.items c.self.inside.fresh _ c.self.inside.saved c.args.self.now c.self.view_is c.self.invariant.0
          c.in_ok-insert.ensures.items s.counted c.freshness_at-self-inside.ensures))
          (stands-waiting c.self.inside.changes (c.args.self.now.recorded ++ Begin ∷ []) c.args.self.now (changes-begin c.args.self.now.recorded) s),
    )
