use Rattle.rl_record.proofs.Common.{arith, rules}
use Rattle.rl_record.proofs.Records.TallyLemmas.{OpenAt-before, OpenAt-done, OpenAt-small}
use Rattle.rl_record.proofs.units.stays_open.Goals as goal

pub level_before-groups-requires-clause-small : goal.level_before-groups-requires-clause-small
level_before-groups-requires-clause-small c =
    let small = OpenAt-small c.args.entries.now c.loop-at.at c.loop-at.groups c.requires.matched c.loop-at.invariant.stays in
    let within = c.loop-at.invariant.stays.within in
    search (rules, arith, small, within)

pub loop-at-preserved : goal.loop-at-preserved
loop-at-preserved c = record {
  stays = OpenAt-before c.args.entries.now c.loop-at.at c.loop-at.groups c.level_before-groups.result c.index-entries-at.result c.requires.matched (omega (arith, c.loop-at-test.true)) (omega (arith, c.if-groups-eq0.false))
      c.index-entries-at.is c.level_before-groups.ensures c.loop-at.invariant.stays;
  cut = omega (arith, c.loop-at.invariant.cut, c.loop-at.invariant.stays.within, c.loop-at-test.true);
}

pub returns : goal.returns
returns c = λ _ h. OpenAt-done c.args.entries.now c.args.from c.loop-at.at c.loop-at.groups (omega (arith, c.loop-at-test.false)) c.loop-at.invariant.cut c.loop-at.invariant.stays h
