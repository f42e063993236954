use Rattle.rl_session.proofs.Common.{◌≡◌, ◌++◌, List, ℕ, length, HasNoNewline, Took}
use Rattle.rl_session.proofs.script.Runner.take_block.Given as goal

abbrev pub invariant-loop-end : goal.invariant-loop-end
invariant-loop-end g l = record {
  took : (front : List ℕ) × (l.block ≡ front ++ l.rest)
      × Took l.fn.self.interpreter l.fn.self.part.items front (g.W.Write.contents l.fn.writer) (g.W.Write.contents l.writer) l.self.interpreter l.self.part.items;
  clean : HasNoNewline l.self.part.items;
}

abbrev pub decreases-loop-end : goal.decreases-loop-end
decreases-loop-end g l = length l.rest
