use Rattle.rl_record.proofs.Common.{adds_end, ap, arith, entry_of, length, map, sym, take, ◌+◌, ◌-◌, ◌<◌, ◌∙◌, ◌≡◌}
use Rattle.rl_record.proofs.Records.EntryLemmas.{adds-off}
use Rattle.rl_record.proofs.entries.groups.adds_end.Goals.{After-is_begin}
use Rattle.rl_record.proofs.entries.groups.adds_end.Goals as goal

inside : (c : After-is_begin) → c.loop-left.at - 1 < length c.args.entries.now
inside c = omega (arith, c.loop-left.invariant.within, c.if-at-eq0.false)

-- what is left to close, with the entry that is looked at
rest : (c : After-is_begin) → adds_end c.loop-left.left (map entry_of (take ((c.loop-left.at - 1) + 1) c.args.entries.now)) ≡ adds_end c.args.count (map entry_of c.args.entries.now)
rest c =
    let one_more : (c.loop-left.at - 1) + 1 ≡ c.loop-left.at = omega (arith, c.if-at-eq0.false) in
    ap (λ n. adds_end c.loop-left.left (map entry_of (take n c.args.entries.now))) one_more ∙ c.loop-left.invariant.rest

pub loop-left-preserved : goal.loop-left-preserved
loop-left-preserved c =
    let d = (goal.at.loop-left-preserved c).After-is_begin in
    record {
      rest = sym (adds-off c.args.entries.now (c.loop-left.at - 1) c.loop-left.left _ (inside d) c.index-entries-at.is c.loop-left-test.true (sym c.is_begin.ensures ∙ c.if-not-is_begin.false)) ∙ rest d;
      within = omega (arith, c.loop-left.invariant.within);
    }
