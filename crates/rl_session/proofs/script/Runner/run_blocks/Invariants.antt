use Rattle.rl_session.proofs.Common.{◌≡◌, length, HasNoNewline, Runs}
use Rattle.rl_session.proofs.script.Runner.run_blocks.Given as goal

abbrev pub invariant-loop : goal.invariant-loop
invariant-loop g l = record {
  runs : Runs (g.R.Read.remaining l.fn.reader) (g.R.Read.remaining l.reader) (g.W.Write.contents l.fn.writer) (g.W.Write.contents l.writer) l.self.interpreter l.self.part.items;
  clean : HasNoNewline l.self.part.items;
  block : length l.block ≡ 4096;
}
