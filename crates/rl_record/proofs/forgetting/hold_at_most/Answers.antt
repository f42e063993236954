use Rattle.rl_record.proofs.Common.{arith, sym}
use Rattle.rl_record.proofs.Records.TallyLemmas.{CountedOn-all, CountedOn-next, CountedOn-over, CountedOn-stopped}
use Rattle.rl_record.proofs.forgetting.hold_at_most.Goals as goal

pub returns-then-held-bytes-clause-answer : goal.returns-then-held-bytes-clause-answer
returns-then-held-bytes-clause-answer c = sym (CountedOn-over c.args.entries.now c.args.bytes c.args.tally.now.counted c.args.tally.now.held c.requires.held c.if-held-bytes.true)

pub returns-then-more-left-clause-answer : goal.returns-then-more-left-clause-answer
returns-then-more-left-clause-answer c =
    sym (CountedOn-stopped c.args.entries.now c.args.bytes c.loop-at.at c.loop-at.held c.size-more.result c.index-entries-at.result c.loop-at.tally c.loop-at-test.true c.index-entries-at.is c.size-more.ensures
    c.if-more-left.true c.loop-at.invariant.counted)

pub loop-at-preserved : goal.loop-at-preserved
loop-at-preserved c = record {
  counted = CountedOn-next c.args.entries.now c.args.bytes c.loop-at.at c.loop-at.held c.size-more.result c.index-entries-at.result c.loop-at.tally c.loop-at-test.true c.index-entries-at.is c.size-more.ensures
      (omega (arith, c.if-more-left.false)) c.loop-at.tally.opened c.loop-at.invariant.counted;
  opened = c.loop-at.invariant.opened;
}

pub returns-clause-answer : goal.returns-clause-answer
returns-clause-answer c = sym (CountedOn-all c.args.entries.now c.args.bytes c.loop-at.at c.loop-at.held c.loop-at.tally (omega (arith, c.loop-at-test.false)) c.loop-at.invariant.counted)
