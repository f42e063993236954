use Rattle.rl_record.proofs.Common.{StandsAt, adds_end, ap, arith, end_times, entry_of, length-map, map, subst, sym, take, ◌∙◌}
use Rattle.rl_record.proofs.Records.KeepLemmas.{closed-view}
use Rattle.rl_record.proofs.Records.PointLemmas.{changes-end_times, stands-dropped}
use Rattle.rl_record.proofs.entries.Entries.close.Goals as goal

pub invariant_of-self-2 : goal.invariant_of-self-2
invariant_of-self-2 c =
    let s = subst (StandsAt c.self.inside.changes) c.self.view_is c.self.invariant.1 in
    let now = c.close_groups.new.entries in (
      omega (arith, c.len-self-inside.ensures, now.ok.0),
      subst (StandsAt c.self.inside.changes)
          (sym (closed-view c.args.count c.self.inside.recorded c.len-self-inside.result c.self.inside.changes (map entry_of c.self.inside.list.items) (map entry_of c.keep.new.entries.items) (map entry_of now.items)
          c.self.inside.fresh _ c.self.inside.saved _ c.args.self.now c.self.view_is s (c.keep.ensures.items ∙ ap (λ xs. take c.self.inside.recorded (map entry_of xs)) c.in_ok-find_ends.ensures.items)
          c.close_groups.ensures.entries (omega (arith, c.len-self-inside.ensures, now.ok.0, length-map now.items entry_of)) c.keep.ensures.saved c.freshness_at-self-inside.ensures))
          (stands-dropped c.self.inside.changes (end_times c.args.count c.args.self.now.recorded) c.args.self.now (changes-end_times c.args.count c.args.self.now.recorded) s),
    )

pub returns-clause-done : goal.returns-clause-done
returns-clause-done c =
    let now = c.close_groups.new.entries in (
      c.adds_end-adds.ensures ∙ ap (adds_end c.args.count) c.recorded.ensures,
      closed-view c.args.count c.self.inside.recorded c.len-self-inside.result c.self.inside.changes (map entry_of c.self.inside.list.items) (map entry_of c.keep.new.entries.items) (map entry_of now.items)
          c.self.inside.fresh _ c.self.inside.saved _ c.args.self.now c.self.view_is (subst (StandsAt c.self.inside.changes) c.self.view_is c.self.invariant.1)
          (c.keep.ensures.items ∙ ap (λ xs. take c.self.inside.recorded (map entry_of xs)) c.in_ok-find_ends.ensures.items)
          c.close_groups.ensures.entries (omega (arith, c.len-self-inside.ensures, now.ok.0, length-map now.items entry_of)) c.keep.ensures.saved c.freshness_at-self-inside.ensures,
    )
