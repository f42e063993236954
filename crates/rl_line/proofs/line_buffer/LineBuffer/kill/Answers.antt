use Rattle.rl_line.proofs.line_buffer.LineBuffer.kill.Goals as goal

pub returns : goal.returns
returns g c = rw (← c.if-is_by_characters.ensures) (rw (c.killed-range.ensures.value, c.side_of-side.ensures, c.index_lines_for.ensures) at c.kill_some.ensures)
