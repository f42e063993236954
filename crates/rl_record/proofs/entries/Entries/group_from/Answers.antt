use Rattle.rl_record.proofs.Common.{StandsAt, ap, arith, entry_of, length-map, map, subst, sym, ◌∙◌}
use Rattle.rl_record.proofs.Records.PointLemmas.{changes-grouped, stands-all}
use Rattle.rl_record.proofs.Records.UnitingLemmas.{grouped-view}
use Rattle.rl_record.specs.Units.{grouped_from}
use Rattle.rl_record.proofs.entries.Entries.group_from.Goals as goal

pub returns-clause-done : goal.returns-clause-done
returns-clause-done c =
    let put = c.put_marks.new.entries in
    grouped-view c.args.from c.self.inside.recorded c.len-self-inside.result c.self.inside.changes (map entry_of c.self.inside.list.items) (map entry_of put.items) _ _ c.self.inside.saved _ c.self.view_is c.requires.all
    (c.put_marks.ensures ∙ ap (λ xs. grouped_from c.args.from (map entry_of xs)) c.in_ok-reserve.ensures.items) (omega (arith, c.len-self-inside.ensures, put.ok.0, length-map put.items entry_of))
    (subst (StandsAt c.self.inside.changes) c.self.view_is c.self.invariant.1).counted c.freshness_at-self-inside.ensures

pub invariant_of-self-2 : goal.invariant_of-self-2
invariant_of-self-2 c =
    let put = c.put_marks.new.entries in
    let s = subst (StandsAt c.self.inside.changes) c.self.view_is c.self.invariant.1 in (
      omega (arith, c.len-self-inside.ensures, put.ok.0),
      subst (StandsAt c.self.inside.changes)
          (sym (grouped-view c.args.from c.self.inside.recorded c.len-self-inside.result c.self.inside.changes (map entry_of c.self.inside.list.items) (map entry_of put.items) _ _ c.self.inside.saved _ c.self.view_is c.requires.all
          (c.put_marks.ensures ∙ ap (λ xs. grouped_from c.args.from (map entry_of xs)) c.in_ok-reserve.ensures.items) (omega (arith, c.len-self-inside.ensures, put.ok.0, length-map put.items entry_of)) s.counted c.freshness_at-self-inside.ensures))
          (stands-all c.self.inside.changes (grouped_from c.args.from c.args.self.now.recorded) c.args.self.now (changes-grouped c.args.from c.args.self.now.recorded) c.requires.all s),
    )
