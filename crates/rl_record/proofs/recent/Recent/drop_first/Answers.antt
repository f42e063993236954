use Rattle.rl_record.proofs.Common.{ap, without_first, ◌∙◌}
use Rattle.rl_record.proofs.Records.FrontLemmas.{without-more}
use Rattle.rl_record.proofs.recent.Recent.drop_first.Goals as goal

pub loop-preserved : goal.loop-preserved
loop-preserved c = record { so_far = c.drop_one.ensures ∙ ap (without_first 1) c.loop.invariant.so_far ∙ without-more c.loop.counter c.args.self.now }
