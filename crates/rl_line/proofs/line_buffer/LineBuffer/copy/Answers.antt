use Rattle.rl_line.proofs.Common.{Some, ap, option_map, text_in, ◌∙◌}
use Rattle.rl_line.proofs.line_buffer.LineBuffer.copy.Goals as goal

pub returns-in_ok-text_of-in-Some-clause-ok : goal.returns-in_ok-text_of-in-Some-clause-ok
returns-in_ok-text_of-in-Some-clause-ok c =
    ap Some c.in_ok-text_of-in-Some.ensures.ok ∙ ap (option_map (text_in c.args.self.now)) c.in-Some.ensures.value
