use Rattle.rl_record.proofs.Common.{StandsAt, arith, common_steps, end_times, entry_of, length-map, map, rules, subst, sym}
use Rattle.rl_record.proofs.Records.PointLemmas.{changes-end_times, stands-waiting}
use Rattle.rl_record.proofs.Records.WaitingLemmas.{dropped-view, few-empty}
use Rattle.rl_record.proofs.entries.Entries.drop_begins.Goals as goal

pub overflow_sub-left : goal.overflow_sub-left
overflow_sub-left c =
    few-empty c.self.inside.recorded c.args.count (map entry_of c.self.inside.list.items) c.self.inside.fresh c.self.inside.saved c.args.self.now c.self.view_is
    (omega (arith, c.self.invariant.0, length-map c.self.inside.list.items entry_of)) c.requires

pub returns : goal.returns
returns c =
    dropped-view c.self.inside.recorded c.args.count c.self.inside.changes c.self.inside.list.items c.drop-drain.new.self.0.items c.self.inside.fresh _ c.self.inside.saved c.args.self.now c.self.view_is
    c.self.invariant.0 c.requires (search rules) (subst (StandsAt c.self.inside.changes) c.self.view_is c.self.invariant.1).counted c.freshness_at-self-inside.ensures

pub invariant_of-self : goal.invariant_of-self
invariant_of-self c =
    let s = subst (StandsAt c.self.inside.changes) c.self.view_is c.self.invariant.1 in (
      grind (arith, common_steps),
      subst (StandsAt c.self.inside.changes)
          (sym (dropped-view c.self.inside.recorded c.args.count c.self.inside.changes c.self.inside.list.items c.drop-drain.new.self.0.items c.self.inside.fresh _ c.self.inside.saved c.args.self.now c.self.view_is
          c.self.invariant.0 c.requires (search rules) s.counted c.freshness_at-self-inside.ensures))
          (stands-waiting c.self.inside.changes (end_times c.args.count c.args.self.now.recorded) c.args.self.now (changes-end_times c.args.count c.args.self.now.recorded) s),
    )
