use Rattle.rl_record.proofs.Common.{sym}
use Rattle.rl_record.proofs.Records.ForgettingLemmas.{forgotten-stays, open-all_stays}
use Rattle.rl_record.proofs.recent.Recent.forget_beyond.Goals as goal

pub returns-then-is_known_open : goal.returns-then-is_known_open
returns-then-is_known_open c =
    sym (forgotten-stays c.args.most c.args.bytes c.args.self.now (open-all_stays c.args.self.now.recorded (c.is_known_open.ensures c.if-is_known_open.true) c.args.most c.args.bytes))
