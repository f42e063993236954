use Rattle.rl_record.proofs.Records.TallyLemmas.{front-recorded}
use Rattle.rl_record.proofs.recent.Recent.recorded.Goals as goal

pub returns : goal.returns
returns c = front-recorded c.self.inside.gone c.recorded.result.now c.self.inside.all c.args.self.now c.self.view_is c.recorded.ensures
