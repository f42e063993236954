use Rattle.rl_record.proofs.Common.{arith, leb-true}
use Rattle.rl_record.proofs.Records.TallyLemmas.{last-fits}
use Rattle.rl_record.proofs.forgetting.Tally.fits_with_last.Goals as goal

pub returns-then-left-eq1 : goal.returns-then-left-eq1
returns-then-left-eq1 c = λ yes.
    last-fits c.args.entries.now c.args.bytes c.args.self.counted c.args.self.held c.size.result c.index-entries-at.result c.requires (omega (arith, c.saturating_sub-left.ensures, c.if-left-eq1.true)) c.index-entries-at.is
    c.size.ensures (omega (arith, c.if-held-bytes.false)) (leb-true _ _ yes)
