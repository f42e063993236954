use Rattle.rl_line.proofs.Common.{rules}
use Rattle.rl_line.proofs.Plans.PlanLemmas.{Done-moved}
use Rattle.rl_line.proofs.Plans.TranspositionLemmas.{transpose-stays}
use Rattle.rl_line.proofs.line_buffer.LineBuffer.transpose_words.Goals as goal

pub returns-then-not-are_two : goal.returns-then-not-are_two
returns-then-not-are_two g c =
    Done-moved _ _ c.args.self.now _ _ c.first_word-first.result.end _ c.set_pos.ensures
    (transpose-stays c.args.self.now c.args.n _ _ c.first_word-first.ensures.value c.second_word-second.ensures.value (search rules))
