use Rattle.rl_line.proofs.line_buffer.LineBuffer.delete_to.Goals as goal

pub returns : goal.returns
returns g c = c.delete_by.ensures
