-- A boundary of any text: its start.
use Rattle.rl_line.proofs.Common.{IsCharBoundary-start}

pub ruleset starting = (IsCharBoundary-start)
