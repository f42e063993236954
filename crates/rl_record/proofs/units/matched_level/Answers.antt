use Rattle.rl_record.proofs.Common.{arith, entry_of, length-map, map, rules, subst, sym, take_all, ◌∙◌}
use Rattle.rl_record.proofs.Records.BytesLemmas.{entry_at}
use Rattle.rl_record.proofs.Records.MatchLemmas.{MarkedTo, MarkedTo-level, MarkedTo-next, unmatched}
use Rattle.rl_record.proofs.units.matched_level.Goals.{else-is_end-via-else-is_end, else-is_end-via-then-is_end+else-after_begin, else-level-eq0, then-level-eq0}
use Rattle.rl_record.proofs.units.matched_level.Goals as goal

pub returns-then-after_begin-clause-none : goal.returns-then-after_begin-clause-none
returns-then-after_begin-clause-none c = λ none.
    let xs = c.args.entries.now in let i = c.loop-entry.entry-index in let x = c.entry-item.result in
    let at = entry_at xs i x c.loop-entry-test.true c.entry-item.is in
    unmatched (map entry_of xs) i c.loop-entry.level c.loop-entry.after_begin (entry_of x) at.0 at.1 c.loop-entry.invariant.marked (sym c.is_end.ensures ∙ c.if-is_end.true) (search rules)

pub loop-entry-preserved : goal.loop-entry-preserved
loop-entry-preserved c =
    let xs = c.args.entries.now in let i = c.loop-entry.entry-index in let x = c.entry-item.result in
    let at = entry_at xs i x c.loop-entry-test.true c.entry-item.is in
    record {
      marked = rw (c.level_after-level.ensures.level, c.is_begin-after_begin.ensures) (MarkedTo-next (map entry_of xs) i c.loop-entry.level c.loop-entry.after_begin (entry_of x) at.0 at.1 c.loop-entry.invariant.marked (search rules));
      small = omega (arith, c.level_after-level.ensures.bound, c.loop-entry.invariant.small);
    }

pub returns-clause-some : goal.returns-clause-some
returns-clause-some c =
    let xs = c.args.entries.now in
    let all = take_all c.loop-entry.entry-index (map entry_of xs) (omega (arith, c.loop-entry-test.false, length-map xs entry_of)) in
    MarkedTo-level (map entry_of xs) c.loop-entry.level c.loop-entry.after_begin (subst (λ es. MarkedTo es c.loop-entry.level c.loop-entry.after_begin) all c.loop-entry.invariant.marked)
