use Rattle.rl_record.proofs.Common.{without_first, ◌≡◌}
use Rattle.rl_record.proofs.recent.Recent.drop_first.Given as goal

abbrev pub invariant-loop : goal.invariant-loop
invariant-loop l = record {
  so_far : l.self ≡ without_first l.counter l.fn.self;
}
