use Rattle.rl_record.proofs.Common.{sym}
use Rattle.rl_record.proofs.Records.ForgettingLemmas.{forgotten-fits}
use Rattle.rl_record.proofs.recent.Recent.forget.Goals as goal

pub returns-then-is_known_to_fit : goal.returns-then-is_known_to_fit
returns-then-is_known_to_fit c = sym (forgotten-fits c.args.most c.args.bytes c.args.self.now (c.is_known_to_fit.ensures c.if-is_known_to_fit.true))
