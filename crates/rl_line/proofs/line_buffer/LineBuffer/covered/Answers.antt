use Rattle.rl_line.proofs.Common.{IsCharBoundary-start, rules}
use Rattle.rl_line.proofs.line_buffer.LineBuffer.covered.Goals as goal

pub unless_empty-requires-in-WholeBuffer-clause-start :
    goal.unless_empty-requires-in-WholeBuffer-clause-start
unless_empty-requires-in-WholeBuffer-clause-start c = rw (← c.as_str-text.ensures) (IsCharBoundary-start _ c.as_str-text.utf8)

pub unless_empty-requires-in-BeginningOfBuffer-clause-start :
    goal.unless_empty-requires-in-BeginningOfBuffer-clause-start
unless_empty-requires-in-BeginningOfBuffer-clause-start c = rw (← c.as_str-text.ensures) (IsCharBoundary-start _ c.as_str-text.utf8)

pub returns-in-ViFirstPrint-clause-end : goal.returns-in-ViFirstPrint-clause-end
returns-in-ViFirstPrint-clause-end c = rw (← c.as_str-text.ensures) c.from_first_print.ensures.end

pub returns-in-WholeLine-clause-value : goal.returns-in-WholeLine-clause-value
returns-in-WholeLine-clause-value c = search rules
