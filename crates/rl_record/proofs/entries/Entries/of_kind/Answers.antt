use Rattle.rl_record.proofs.Records.MoveLemmas.{kinds-are}
use Rattle.rl_record.proofs.entries.Entries.of_kind.Goals as goal

pub returns : goal.returns
returns c = kinds-are c.self.inside.recorded c.self.inside.list.items c.self.inside.fresh c.self.inside.saved c.args.self.now c.self.view_is
