use Rattle.rl_line.proofs.Common.{ap, arith, le-leb, rules, sym}
use Rattle.rl_line.proofs.Plans.TranspositionLemmas.{transpose-stays}
use Rattle.rl_line.specs.Plan.{longest_by}
use Rattle.rl_line.proofs.line_buffer.LineBuffer.transpose_words_fits.Goals as goal

pub returns-then-not-are_two : goal.returns-then-not-are_two
returns-then-not-are_two c =
    let line = c.args.self.now in
    let stays = transpose-stays line c.args.n _ _ c.first_word-first.ensures.value c.second_word-second.ensures.value (search rules) in
    sym (le-leb _ line.limit (omega (arith, ap (longest_by line) stays, c.limit-limit.ensures.within)))
